-- Values of objects: none past the objects, and what follows from what is reached.
use Rattle.std.proofs.Common.{◌≡◌, ℕ, zero, suc, ◌+◌, ◌<◌, ◌≤◌, List, [], ◌∷◌, length, drop, Bool, true, false, Option, Some, refl, sym, ap, ◌∙◌, arith, add-one}
use Rattle.std.specs.Prelude.{max, nat_lt, if◌then◌else◌}
use Rattle.std.proofs.lemmas.Bool.{le-ltb}
use Rattle.fml_types.specs.Ground.{parts_at, greatest, at, reached, reached_all, needed, height_up_to, first_above}
use Rattle.fml_types.specs.Capped.{cap}
use Rattle.fml_types.specs.CappedHeights as heights
use Rattle.fml_types.specs.CappedWeights.{next_capped, capped_weight_up_to}
use Rattle.fml_types.specs.Values.{value_in, table}
use Rattle.fml_types.specs.declared.graph.Part.{Part}
use Rattle.fml_types.proofs.Tables.{value_in-table, past}

-- ---- no values past the objects

pub parts_past : (g : List (List Part)) (i : ℕ) → length g ≤ i → parts_at g i ≡ []
parts_past [] i h = refl
parts_past (p ∷ ps) zero h = absurd (omega arith)
parts_past (p ∷ ps) (suc i) h = parts_past ps i (omega arith)

pub reached_past : (g : List (List Part)) (v : ℕ → ℕ) → ((i : ℕ) → length g ≤ i → v i ≡ 0) → (n i : ℕ) → length g ≤ i → reached g v n i ≡ 0
reached_past g v none zero i h = none i h
reached_past g v none (suc n) i h = ap (λ ps. max (v i) (greatest (λ (p : Part). at (reached g v n) p.mentions) ps)) (parts_past g i h) ∙ ap (λ m. max m 0) (none i h)

pub height_past : (g : List (List Part)) (k i : ℕ) → length g ≤ i → height_up_to g k i ≡ 0
height_past g zero i h = refl
height_past g (suc k) i h = ap (λ b. if b then suc (greatest (needed (height_up_to g k) (reached_all g (height_up_to g k))) (parts_at g i)) else 0) (le-ltb i (length g) h)

if_false : (b : Bool) (m : ℕ) → b ≡ false → (if b then m else 0) ≡ 0
if_false true m e = absurd cc
if_false false m e = refl

pub next_height_past : (g : List (List Part)) (v : ℕ → ℕ) (i : ℕ) → length g ≤ i → heights.next_capped g v i ≡ 0
next_height_past g v i h = let none = if_false (nat_lt i (length g)) (suc (greatest (needed v (reached_all g v)) (parts_at g i))) (le-ltb i (length g) h) in omega (arith, none)

pub next_weight_past : (g : List (List Part)) (v : ℕ → ℕ) (i : ℕ) → length g ≤ i → next_capped g v i ≡ 0
next_weight_past g v i h = ap cap (if_false (nat_lt i (length g)) _ (le-ltb i (length g) h))

pub weight_past : (g : List (List Part)) (k i : ℕ) → length g ≤ i → capped_weight_up_to g k i ≡ 0
weight_past g zero i h = refl
weight_past g (suc k) i h = next_weight_past g (capped_weight_up_to g k) i h

-- ---- each round

-- what follows from what is reached, as functions
pub next_from : (step : (ℕ → ℕ) → (ℕ → ℕ) → ℕ → ℕ) (g : List (List Part)) (vs rs : List ℕ) → length vs ≡ length g → rs ≡ table (reached_all g (value_in vs)) (length g) → table (step (value_in vs) (value_in rs)) (length g) ≡ table (step (value_in vs) (reached_all g (value_in vs))) (length g)
next_from step g vs rs len far =
    let same : value_in rs ≡ reached_all g (value_in vs) = ap value_in far ∙ value_in-table (reached_all g (value_in vs)) (length g) (reached_past g (value_in vs) (λ j past_it. past vs j (omega (arith, len))) (length g)) in
    ap (λ r. table (step (value_in vs) r) (length g)) same

pub above_turn : {T : Type 0} (limit : ℕ) (v : ℕ → ℕ) (k : ℕ) (names : List (List ℕ × T)) (i : ℕ) → i < length names → nat_lt limit (v k) ≡ false → first_above limit v (suc k) (drop (suc i) names) ≡ first_above limit v k (drop i names)
above_turn limit v k [] i h e = absurd (omega arith)
above_turn limit v k (o ∷ os) zero h e = sym (ap (λ b. if b then Some o.0 else first_above limit v (suc k) os) e)
above_turn limit v k (o ∷ os) (suc i) h e = above_turn limit v k os i (omega arith) e

pub above_next : {T : Type 0} (limit : ℕ) (v : ℕ → ℕ) (i : ℕ) (names : List (List ℕ × T)) (all : Option (List ℕ)) → i < length names → v i ≤ limit → first_above limit v i (drop i names) ≡ all → first_above limit v (i + 1) (drop (i + 1) names) ≡ all
above_next limit v i names all h low so_far = ap (λ n. first_above limit v n (drop n names)) (add-one i) ∙ above_turn limit v i names i h (le-ltb limit (v i) low) ∙ so_far
