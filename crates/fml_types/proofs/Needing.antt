-- Objects are higher than those that they need.
use Rattle.std.proofs.Common.{◌≡◌, ℕ, zero, suc, ◌<◌, ◌≤◌, List, [], ◌∷◌, length, get_or, Option, inl, inr, refl, ap, subst, arith, lt-ltb}
use Rattle.std.proofs.lemmas.Bool.{cases_lt}
use Rattle.std.specs.Prelude.{min, if◌then◌else◌}
use Rattle.fml_types.specs.Ground.{parts_at, greatest, at, needed, value_of_need, reached_all, next_heights, height_up_to}
use Rattle.fml_types.specs.Laws.{ReachesIn, FieldNeeds, SomeNeeds, NeedsIn, one_more, AreOneMore, AreHigher, AreEndless}
use Rattle.fml_types.specs.declared.graph.Need.{Need}
use Rattle.fml_types.specs.declared.graph.Need.TheVariants.{Nothing, Mentioned, Reached}
use Rattle.fml_types.specs.declared.graph.Part.{Part}
use Rattle.fml_types.proofs.HeightRounds.{next_agrees, height_agrees}
use Rattle.fml_types.proofs.Reaching.{base_le, reached_all_closed}

-- ---- one more

one_more_up_to : (g : List (List Part)) (k i : ℕ) → i < length g → height_up_to g (suc k) i ≤ k → height_up_to g (suc k) i ≡ one_more g (height_up_to g (suc k)) i
one_more_up_to g k i within low =
    let agree = next_agrees g k (height_up_to g (suc k)) (height_agrees g k) i in
    let here : next_heights g (height_up_to g (suc k)) i ≡ one_more g (height_up_to g (suc k)) i = ap (λ b. if b then one_more g (height_up_to g (suc k)) i else 0) (lt-ltb i (length g) within) in
    capped_at (next_heights g (height_up_to g (suc k)) i) (one_more g (height_up_to g (suc k)) i) (height_up_to g (suc k) i) k agree here low
  where
    capped_at : (a b h k : ℕ) → min a (suc k) ≡ h → a ≡ b → h ≤ k → h ≡ b
    capped_at a b h k agree here low = omega arith

pub heights_are_one_more : AreOneMore
heights_are_one_more g i within low = one_more_up_to g 32 i within low

-- ---- each that is needed

reach_le : (g : List (List Part)) (v : ℕ → ℕ) (n i j : ℕ) → ReachesIn g n i j → v j ≤ reached_all g v i
reach_le g v zero i j same = subst (λ k. v k ≤ reached_all g v i) same (base_le g v (length g) i)
reach_le g v (suc n) i j way = omega (arith, reach_le g v n way.0 j way.2, reached_all_closed g v i way.0 way.1)

pub field_le : (g : List (List Part)) (v : ℕ → ℕ) (mentioned : Option ℕ) (need : Need) (j : ℕ) → FieldNeeds g mentioned need j → v j ≤ value_of_need v (reached_all g v) mentioned need
field_le g v mentioned Nothing j needs = absurd needs
field_le g v mentioned Mentioned j needs = let here : at v mentioned ≡ v j = ap (at v) needs in omega (arith, here)
field_le g v mentioned Reached j needs =
    let here : at (reached_all g v) mentioned ≡ reached_all g v needs.0 = ap (at (reached_all g v)) needs.2 in
    omega (arith, here, reach_le g v needs.1 needs.0 j needs.3)

some_le : (g : List (List Part)) (v : ℕ → ℕ) (ps : List Part) (j : ℕ) → SomeNeeds g ps j → v j ≤ greatest (needed v (reached_all g v)) ps
some_le g v [] j needs = absurd needs
some_le g v (p ∷ ps) j (inl needs) = omega (arith, field_le g v p.mentions p.need j needs)
some_le g v (p ∷ ps) j (inr needs) = omega (arith, some_le g v ps j needs)

past : (g : List (List Part)) (i : ℕ) → length g ≤ i → get_or g i [] ≡ []
past [] i h = refl
past (ps ∷ g) zero h = absurd (omega arith)
past (ps ∷ g) (suc i) h = past g i (omega arith)

pub higher_up_to : (g : List (List Part)) (k i j : ℕ) → SomeNeeds g (parts_at g i) j → height_up_to g (suc k) i ≤ k → height_up_to g (suc k) j < height_up_to g (suc k) i
higher_up_to g k i j needs low =
    elim (cases_lt i (length g)) [
      | inl within ↦ under (height_up_to g (suc k) j) (height_up_to g (suc k) i) (greatest (needed (height_up_to g (suc k)) (reached_all g (height_up_to g (suc k)))) (parts_at g i))
          (one_more_up_to g k i within low) (some_le g (height_up_to g (suc k)) (parts_at g i) j needs)
      | inr most ↦ absurd (subst (λ ps. SomeNeeds g ps j) (past g i most) needs)
    ]
  where
    under : (a b c : ℕ) → b ≡ suc c → a ≤ c → a < b
    under a b c e h = omega arith

pub heights_are_higher : AreHigher
heights_are_higher g i j needs low = higher_up_to g 32 i j needs low

-- ---- cycles

chain_up_to : (g : List (List Part)) (k n i j : ℕ) → NeedsIn g n i j → height_up_to g (suc k) i ≤ k → height_up_to g (suc k) j < height_up_to g (suc k) i
chain_up_to g k zero i j needs low = higher_up_to g k i j needs low
chain_up_to g k (suc n) i j needs low =
    let one = higher_up_to g k i needs.0 needs.1 low in
    let rest = chain_up_to g k n needs.0 j needs.2 (lower (height_up_to g (suc k) needs.0) (height_up_to g (suc k) i) k one low) in
    through (height_up_to g (suc k) j) (height_up_to g (suc k) needs.0) (height_up_to g (suc k) i) rest one
  where
    lower : (a b k : ℕ) → a < b → b ≤ k → a ≤ k
    lower a b k h i = omega arith

    through : (a b c : ℕ) → a < b → b < c → a < c
    through a b c h i = omega arith

endless_up_to : (g : List (List Part)) (k n i : ℕ) → NeedsIn g n i i → k < height_up_to g (suc k) i
endless_up_to g k n i needs =
    elim (cases_lt k (height_up_to g (suc k) i)) [
      | inl above ↦ above
      | inr low ↦ absurd (never (height_up_to g (suc k) i) (chain_up_to g k n i i needs low))
    ]
  where
    never : (a : ℕ) → a < a → ⊥
    never a h = omega arith

pub heights_are_endless : AreEndless
heights_are_endless g n i needs = endless_up_to g 32 n i needs
