-- Laws of heights and weights.
use Rattle.std.specs.Prelude.{◌≡◌, ◌<◌, ◌≤◌, ◌⊎◌, ◌↔◌, ◌+◌, ℕ, zero, suc, List, [], ◌∷◌, length, Option, Some}
use Rattle.std.specs.List.{sum_by}
use Rattle.fml_types.specs.Graph.{graph_of}
use Rattle.fml_types.specs.Ground.{parts_at, greatest, needed, reached_all, height_up_to, share, weight_up_to}
use Rattle.fml_types.specs.Reach.{Mentions}
use Rattle.fml_types.specs.declared.graph.Need.{Need}
use Rattle.fml_types.specs.declared.graph.Need.TheVariants.{Nothing, Mentioned, Reached}
use Rattle.fml_types.specs.declared.graph.Part.{Part}
use Rattle.fml_types.specs.declared.manifest.ObjectDefinition.{ObjectDefinition}

-- an object reaches itself, and what each that it mentions reaches; here in so many steps
abbrev pub ReachesIn : List (List Part) → ℕ → ℕ → ℕ → Type 0
ReachesIn g zero i j = i ≡ j
ReachesIn g (suc n) i j = (m : ℕ) × Mentions (parts_at g i) m × ReachesIn g n m j

-- a field needs the object at a place: the one that it mentions, or each that this one reaches
abbrev pub FieldNeeds : List (List Part) → Option ℕ → Need → ℕ → Type 0
FieldNeeds g mentioned Nothing j = ⊥
FieldNeeds g mentioned Mentioned j = mentioned ≡ Some j
FieldNeeds g mentioned Reached j = (k : ℕ) × (n : ℕ) × (mentioned ≡ Some k) × ReachesIn g n k j

-- some field of these needs it
abbrev pub SomeNeeds : List (List Part) → List Part → ℕ → Type 0
SomeNeeds g [] j = ⊥
SomeNeeds g (p ∷ ps) j = FieldNeeds g p.mentions p.need j ⊎ SomeNeeds g ps j

-- an object needs another by way of so many between them
abbrev pub NeedsIn : List (List Part) → ℕ → ℕ → ℕ → Type 0
NeedsIn g zero i j = SomeNeeds g (parts_at g i) j
NeedsIn g (suc n) i j = (m : ℕ) × SomeNeeds g (parts_at g i) m × NeedsIn g n m j

-- one more than the greatest height of those that an object needs, 1 where it needs none
abbrev pub one_more : List (List Part) → (ℕ → ℕ) → ℕ → ℕ
one_more g heights i = suc (greatest (needed heights (reached_all g heights)) (parts_at g i))

-- the height of an object that isn't too high is one more than the greatest of those that it needs
abbrev pub AreOneMore : Type 0
AreOneMore = (g : List (List Part)) (i : ℕ) → i < length g → height_up_to g 33 i ≤ 32 → height_up_to g 33 i ≡ one_more g (height_up_to g 33) i

-- such an object is higher than each that it needs
abbrev pub AreHigher : Type 0
AreHigher = (g : List (List Part)) (i j : ℕ) → SomeNeeds g (parts_at g i) j → height_up_to g 33 i ≤ 32 → height_up_to g 33 j < height_up_to g 33 i

-- an object on a cycle of needs is too high
abbrev pub AreEndless : Type 0
AreEndless = (g : List (List Part)) (n i : ℕ) → NeedsIn g n i i → 32 < height_up_to g 33 i

-- an object is too high exactly where it is the first of 33 objects, each of which needs the next; one may stand among them more than once
abbrev pub AreTooHigh : Type 0
AreTooHigh = (g : List (List Part)) (i : ℕ) → (32 < height_up_to g 33 i) ↔ ((j : ℕ) × (j < length g) × NeedsIn g 31 i j)

-- ---- weights

-- 2 and a share of each field, which counts the greatest weight of those that the field needs
abbrev pub two_and_shares : List (List Part) → (ℕ → ℕ) → ℕ → ℕ
two_and_shares g weights i = 2 + sum_by (share weights (reached_all g weights)) (parts_at g i)

-- this is the weight of an object that isn't too high
abbrev pub AreOfShares : Type 0
AreOfShares = (g : List (List Part)) (i : ℕ) → i < length g → height_up_to g 33 i ≤ 32 → weight_up_to g 32 i ≡ two_and_shares g (weight_up_to g 32) i

-- such an object is heavier than each that it needs
abbrev pub AreHeavier : Type 0
AreHeavier = (objects : List (List ℕ × ObjectDefinition)) (i j : ℕ) → let g = graph_of objects in SomeNeeds g (parts_at g i) j → height_up_to g 33 i ≤ 32 → weight_up_to g 32 j < weight_up_to g 32 i

-- where an object stands on a cycle of needs, no weights are so of each object
abbrev pub HaveNone : Type 0
HaveNone = (objects : List (List ℕ × ObjectDefinition)) (n i : ℕ) (weights : ℕ → ℕ) → let g = graph_of objects in NeedsIn g n i i → ((j : ℕ) → j < length g → weights j ≡ two_and_shares g weights j) → ⊥
