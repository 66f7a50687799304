use Rattle.std.proofs.Common.{◌≡◌, ◌+◌, take}
use Rattle.std.specs.List.{sum_by}
use Rattle.fml_types.specs.Capped.{cap}
use Rattle.fml_types.specs.Ground.{share}
use Rattle.fml_types.specs.Values.{value_in}
use Rattle.fml_types.proofs.weights.weight.Given as goal

abbrev pub invariant-loop-part : goal.invariant-loop-part
invariant-loop-part l = l.weight ≡ cap (2 + sum_by (share (value_in l.weights) (value_in l.reached)) (take l.part-index l.parts))
