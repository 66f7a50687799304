use Rattle.std.proofs.Common.{◌≡◌, ◌≤◌, ◌*◌, ◌^◌, length, take}
use Rattle.row_batches.specs.Batch.{changes_text}
use Rattle.row_batches.proofs.writing.changes_size.Given as goal

abbrev pub invariant-loop-change : goal.invariant-loop-change
invariant-loop-change l = record {
  size : l.size ≡ length (changes_text (take l.change-index l.changes));
  bound : l.size ≤ 2 ^ 66 * l.change-index;
}
