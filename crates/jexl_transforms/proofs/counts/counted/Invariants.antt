use Rattle.std.proofs.Common.{◌≡◌, ◌≤◌, take}
use Rattle.std.specs.Prelude.{sum_by}
use Rattle.jexl_transforms.proofs.SeenCounts.{one_for}
use Rattle.jexl_transforms.proofs.counts.counted.Given as goal

abbrev pub invariant-loop-value : goal.invariant-loop-value
invariant-loop-value l = record {
  number : l.number ≡ sum_by one_for (take l.value-index l.counts);
  bound : l.number ≤ l.value-index;
}
