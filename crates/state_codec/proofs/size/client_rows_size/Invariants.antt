use Rattle.std.proofs.Common.{◌≡◌, ◌≤◌, ◌*◌, map, length, take}
use Rattle.row_batches.specs.Batch.{puts_text}
use Rattle.state_codec.specs.Encoding.{status_row}
use Rattle.state_codec.proofs.size.client_rows_size.Given as goal

abbrev pub invariant-loop-row : goal.invariant-loop-row
invariant-loop-row l = record {
  size : l.size ≡ length (puts_text (map (status_row) (take l.row-index l.rows)));
  bound : l.size ≤ 177 * l.row-index;
}
