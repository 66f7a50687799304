-- Heights that count up to 33, whatever the values are that they follow.
use Rattle.std.specs.Prelude.{ℕ, List, min}
use Rattle.fml_types.specs.Ground.{higher, reached_all}
use Rattle.fml_types.specs.declared.graph.Part.{Part}

abbrev pub capped_higher : List (List Part) → (ℕ → ℕ) → (ℕ → ℕ) → ℕ → ℕ
capped_higher g v r i = min (higher g v r i) 33

-- the heights that follow where all that is needed has these
abbrev pub next_capped : List (List Part) → (ℕ → ℕ) → ℕ → ℕ
next_capped g v = capped_higher g v (reached_all g v)
