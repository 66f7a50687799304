-- Numbers that count up to one above the greatest weight.
use Rattle.std.specs.Prelude.{ℕ, min}
use Rattle.fml_types.specs.declared.graph.Part.{Part}

abbrev pub cap : ℕ → ℕ
cap n = min n 16385

abbrev pub capped : Part → Part
capped p = record { mentions = p.mentions; need = p.need; size = cap p.size; times = cap p.times }
