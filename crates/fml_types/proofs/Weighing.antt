-- The weights of objects that aren't too high, and of those that need them.
use Rattle.std.proofs.Common.{◌≡◌, ℕ, zero, suc, ◌+◌, ◌*◌, ◌<◌, ◌≤◌, Bool, true, false, List, [], ◌∷◌, length, map, get_or, inl, inr, refl, sym, ap, ◌∙◌, subst, arith, lt-ltb}
use Rattle.std.proofs.lemmas.Bool.{cases_lt, le-ltb}
use Rattle.std.proofs.lemmas.List.Sums.{sum_by-cons}
use Rattle.std.specs.List.{sum_by}
use Rattle.std.specs.Prelude.{nat_lt, if◌then◌else◌}
use Rattle.fml_types.specs.Graph.{part_of, times_of, graph_of, is_empty, objects_in_default}
use Rattle.fml_types.specs.Ground.{parts_at, needed, reached_all, next_weights, height_up_to, share, weight_up_to}
use Rattle.fml_types.specs.Laws.{SomeNeeds, NeedsIn, one_more, two_and_shares, AreOfShares, AreHeavier, HaveNone}
use Rattle.fml_types.specs.Shapes.{shape_of}
use Rattle.fml_types.specs.declared.graph.Part.{Part}
use Rattle.fml_types.specs.declared.manifest.Field.{Field}
use Rattle.fml_types.specs.declared.manifest.ObjectDefinition.{ObjectDefinition}
use Rattle.fml_types.proofs.Needing.{heights_are_one_more, field_le}
use Rattle.fml_types.proofs.Rounds.{parts_past}
use Rattle.fml_types.proofs.WeightRounds.{shares_same}

-- ---- two and shares

if_true : (b : Bool) (m : ℕ) → b ≡ true → (if b then m else 0) ≡ m
if_true true m e = refl
if_true false m e = absurd cc

if_false : (b : Bool) (m : ℕ) → b ≡ false → (if b then m else 0) ≡ 0
if_false true m e = absurd cc
if_false false m e = refl

weight_within : (g : List (List Part)) (v : ℕ → ℕ) (i : ℕ) → i < length g → next_weights g v i ≡ two_and_shares g v i
weight_within g v i within = if_true (nat_lt i (length g)) (two_and_shares g v i) (lt-ltb i (length g) within)

weight_beyond : (g : List (List Part)) (v : ℕ → ℕ) (i : ℕ) → length g ≤ i → next_weights g v i ≡ 0
weight_beyond g v i beyond = if_false (nat_lt i (length g)) (two_and_shares g v i) (le-ltb i (length g) beyond)

-- heights up to a bound, each one more than what is needed
module _ (g : List (List Part)) (h : ℕ → ℕ) (bound : ℕ) (heights : (i : ℕ) → i < length g → h i ≤ bound → h i ≡ one_more g h i) where
  -- a round more leaves the weight of an object that isn't higher than the rounds so far
  stable : (k : ℕ) → k ≤ bound → (i : ℕ) → h i ≤ k → weight_up_to g k i ≡ weight_up_to g (suc k) i
  stable zero low i under =
      elim (cases_lt i (length g)) [
        | inl within ↦ let e = heights i within (omega arith) in absurd (omega (arith, e, under))
        | inr beyond ↦ sym (weight_beyond g (weight_up_to g zero) i beyond)
      ]
  stable (suc k) low i under =
      elim (cases_lt i (length g)) [
        | inl within ↦
            let e = heights i within (omega arith) in
            weight_within g (weight_up_to g k) i within
            ∙ ap (λ s. 2 + s) (shares_same g h (weight_up_to g k) (weight_up_to g (suc k)) k (stable k (omega arith)) (parts_at g i) (omega (arith, e, under)))
            ∙ sym (weight_within g (weight_up_to g (suc k)) i within)
        | inr beyond ↦ weight_beyond g (weight_up_to g k) i beyond ∙ sym (weight_beyond g (weight_up_to g (suc k)) i beyond)
      ]

  of_shares : (i : ℕ) → i < length g → h i ≤ bound → weight_up_to g bound i ≡ two_and_shares g (weight_up_to g bound) i
  of_shares i within low = stable bound (omega arith) i low ∙ weight_within g (weight_up_to g bound) i within

pub weights_are_of_shares : AreOfShares
weights_are_of_shares g i within low = of_shares g (height_up_to g 33) 32 (λ j inside under. heights_are_one_more g j inside under) i within low

-- ---- each field counts what it needs

abbrev Count : List Part → Type 0
Count [] = Unit {0}
Count (p ∷ ps) = (0 < p.times) × Count ps

times_some : (f : Field) → 0 < times_of f
unfolding times_of
times_some f = one (is_empty (shape_of f.field_type) f.default)
  where
    one : (b : Bool) → 0 < (if b then 1 else objects_in_default f.default + 1)
    one true = omega arith
    one false = omega arith

fields_count : (objects : List (List ℕ × ObjectDefinition)) (fs : List (List ℕ × Field)) → Count (map (part_of objects) fs)
unfolding part_of
fields_count objects [] = tt
fields_count objects (f ∷ fs) = (times_some f.1, fields_count objects fs)

parts_count : (objects os : List (List ℕ × ObjectDefinition)) (i : ℕ) → Count (get_or (map (λ (o : List ℕ × ObjectDefinition). map (part_of objects) o.1.fields) os) i [])
parts_count objects [] i = tt
parts_count objects (o ∷ os) zero = fields_count objects o.1.fields
parts_count objects (o ∷ os) (suc i) = parts_count objects os i

times_le : (n t : ℕ) → 0 < t → n ≤ t * n
times_le n zero h = absurd (omega arith)
times_le n (suc t) h = omega arith

share_le : (g : List (List Part)) (v : ℕ → ℕ) (p : Part) (j : ℕ) → 0 < p.times → v j ≤ needed v (reached_all g v) p → v j ≤ share v (reached_all g v) p
share_le g v p j some low = let times = times_le (needed v (reached_all g v) p) p.times some in omega (arith, times, low)

some_le : (g : List (List Part)) (v : ℕ → ℕ) (ps : List Part) (j : ℕ) → Count ps → SomeNeeds g ps j → v j ≤ sum_by (share v (reached_all g v)) ps
some_le g v [] j count needs = absurd needs
some_le g v (p ∷ ps) j count (inl needs) = let one = share_le g v p j count.0 (field_le g v p.mentions p.need j needs) in omega (arith, one, sum_by-cons (share v (reached_all g v)) p ps)
some_le g v (p ∷ ps) j count (inr needs) = let rest = some_le g v ps j count.1 needs in omega (arith, rest, sum_by-cons (share v (reached_all g v)) p ps)

within_needs : (g : List (List Part)) (i j : ℕ) → SomeNeeds g (parts_at g i) j → i < length g
within_needs g i j needs =
    elim (cases_lt i (length g)) [
      | inl within ↦ within
      | inr beyond ↦ absurd (subst (λ ps. SomeNeeds g ps j) (parts_past g i beyond) needs)
    ]

heavier_by : (g : List (List Part)) (v : ℕ → ℕ) (i j : ℕ) → Count (parts_at g i) → SomeNeeds g (parts_at g i) j → v i ≡ two_and_shares g v i → v j < v i
heavier_by g v i j count needs same = let low = some_le g v (parts_at g i) j count needs in omega (arith, low, same)

pub weights_are_heavier : AreHeavier
weights_are_heavier objects i j needs low =
    let g = graph_of objects in
    heavier_by g (weight_up_to g 32) i j (parts_count objects objects i) needs (weights_are_of_shares g i (within_needs g i j needs) low)

-- ---- cycles

module _ (objects : List (List ℕ × ObjectDefinition)) (v : ℕ → ℕ) (weights : (j : ℕ) → j < length (graph_of objects) → v j ≡ two_and_shares (graph_of objects) v j) where
  one_heavier : (i j : ℕ) → SomeNeeds (graph_of objects) (parts_at (graph_of objects) i) j → v j < v i
  one_heavier i j needs = heavier_by (graph_of objects) v i j (parts_count objects objects i) needs (weights i (within_needs (graph_of objects) i j needs))

  all_heavier : (n i j : ℕ) → NeedsIn (graph_of objects) n i j → v j < v i
  all_heavier zero i j needs = one_heavier i j needs
  all_heavier (suc n) i j needs =
      let one = one_heavier i needs.0 needs.1 in
      let rest = all_heavier n needs.0 j needs.2 in
      omega (arith, one, rest)

never : (a : ℕ) → a < a → ⊥
never a h = omega arith

pub cycles_have_none : HaveNone
cycles_have_none objects n i v needs weights = never (v i) (all_heavier objects v weights n i i needs)
