use Rattle.std.proofs.Common.{◌≡◌, ◌++◌, length}
use Rattle.fml_merge.specs.Merging.{lower, upper}
use Rattle.fml_merge.proofs.merging.move_below.Given as goal

abbrev pub invariant-loop-left : goal.invariant-loop-left
invariant-loop-left l = record {
  merged : l.merged.items ++ lower l.name l.left.items ≡ l.initial.merged.items ++ lower l.name l.initial.left.items;
  left : upper l.name l.left.items ≡ upper l.name l.initial.left.items;
}

abbrev pub decreases-loop-left : goal.decreases-loop-left
decreases-loop-left l = length l.left.items
