use Rattle.std.proofs.Common.{◌≡◌, ◌≤◌, ◌*◌, length, map, take}
use Rattle.row_batches.specs.Batch.{puts_text}
use Rattle.change_outbox.specs.Rows.{change_row}
use Rattle.change_outbox.proofs.size.entries_size.Given as goal

abbrev pub invariant-loop-entry : goal.invariant-loop-entry
invariant-loop-entry l = record {
  size : l.size ≡ length (puts_text (map change_row (take l.entry-index l.entries)));
  bound : l.size ≤ 178 * l.entry-index;
}
