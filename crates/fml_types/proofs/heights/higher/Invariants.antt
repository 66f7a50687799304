use Rattle.std.proofs.Common.{◌≡◌}
use Rattle.fml_types.specs.CappedHeights.{capped_higher}
use Rattle.fml_types.specs.Values.{value_in, table}
use Rattle.fml_types.proofs.heights.higher.Given as goal

abbrev pub invariant-loop-place : goal.invariant-loop-place
invariant-loop-place l = l.next.items ≡ table (capped_higher l.graph (value_in l.heights) (value_in l.reached)) l.place
