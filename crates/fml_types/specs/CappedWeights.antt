-- Weights that count up to the cap.
use Rattle.std.specs.Prelude.{ℕ, zero, suc, List}
use Rattle.fml_types.specs.Capped.{cap}
use Rattle.fml_types.specs.Ground.{heavier, reached_all}
use Rattle.fml_types.specs.declared.graph.Part.{Part}

abbrev pub capped_heavier : List (List Part) → (ℕ → ℕ) → (ℕ → ℕ) → ℕ → ℕ
capped_heavier g v r i = cap (heavier g v r i)

abbrev pub next_capped : List (List Part) → (ℕ → ℕ) → ℕ → ℕ
next_capped g v = capped_heavier g v (reached_all g v)

abbrev pub capped_weight_up_to : List (List Part) → ℕ → ℕ → ℕ
capped_weight_up_to g zero = λ i. 0
capped_weight_up_to g (suc k) = next_capped g (capped_weight_up_to g k)
