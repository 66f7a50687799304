use Rattle.std.proofs.Common.{◌≡◌}
use Rattle.fml_types.specs.CappedWeights.{capped_heavier}
use Rattle.fml_types.specs.Values.{value_in, table}
use Rattle.fml_types.proofs.weights.heavier.Given as goal

abbrev pub invariant-loop-place : goal.invariant-loop-place
invariant-loop-place l = l.next.items ≡ table (capped_heavier l.graph (value_in l.weights) (value_in l.reached)) l.place
