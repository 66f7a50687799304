use Rattle.std.proofs.Common.{◌≡◌, ◌++◌, ◌+◌, length, map}
use Rattle.row_batches.specs.Batch.{changes_text}
use Rattle.row_batches.specs.Merging.{AreInOrder}
use Rattle.row_batches.specs.Rows.{after_changes}
use Rattle.row_batches.specs.declared.change.RowChange.TheVariants.{Put}
use Rattle.row_batches.proofs.merging.put_merged.Given as goal

abbrev pub invariant-loop-row : goal.invariant-loop-row
invariant-loop-row l = record {
  order : AreInOrder l.changes l.rows;
  written : l.bytes.items ++ changes_text (map Put (after_changes l.changes l.rows)) ≡ l.fn.bytes.items ++ changes_text (map Put (after_changes l.fn.changes l.fn.rows));
}

abbrev pub decreases-loop-row : goal.decreases-loop-row
decreases-loop-row l = length l.changes + length l.rows
