use Rattle.std.proofs.Common.{◌≡◌, take}
use Rattle.fml_types.specs.Ground.{greatest, needed}
use Rattle.fml_types.specs.Values.{value_in}
use Rattle.fml_types.proofs.heights.greatest_needed.Given as goal

abbrev pub invariant-loop-part : goal.invariant-loop-part
invariant-loop-part l = l.greatest ≡ greatest (needed (value_in l.values) (value_in l.reached)) (take l.part-index l.parts)
