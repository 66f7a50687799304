use Rattle.std.proofs.Common.{◌≡◌, ◌≤◌, ◌*◌, length, take}
use Rattle.row_batches.specs.Batch.{puts_text}
use Rattle.event_counts.specs.Rows.{rows_of}
use Rattle.event_counts.proofs.size.names_size.Given as goal

abbrev pub invariant-loop-counts : goal.invariant-loop-counts
invariant-loop-counts l = record {
  size : l.size ≡ length (puts_text (rows_of (take l.counts-index l.names)));
  bound : l.size ≤ 816 * l.counts-index;
}
