use Rattle.std.proofs.Common.{◌≡◌, ◌≤◌, ◌*◌, take}
use Rattle.std.specs.Prelude.{sum_by}
use Rattle.jexl_transforms.proofs.SeenCounts.{counted_as}
use Rattle.jexl_transforms.proofs.counts.sum_of.Given as goal

abbrev pub invariant-loop-value : goal.invariant-loop-value
invariant-loop-value l = record {
  sum : l.sum ≡ sum_by counted_as (take l.value-index l.counts);
  bound : l.sum ≤ l.value-index * 4294967295;
}
