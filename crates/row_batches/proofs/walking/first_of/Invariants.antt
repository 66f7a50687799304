use Rattle.std.proofs.Common.{◌≡◌, ◌≤◌, All, length}
use Rattle.row_batches.specs.ItemRows.{item_rows}
use Rattle.row_batches.proofs.walking.first_of.Given as goal

abbrev pub invariant-loop-left : goal.invariant-loop-left
invariant-loop-left g l = record {
  rows : item_rows (g.F.RowForm.has_row l.form) (g.F.RowForm.key l.form) (g.F.RowForm.value l.form) l.left ≡ item_rows (g.F.RowForm.has_row l.form) (g.F.RowForm.key l.form) (g.F.RowForm.value l.form) l.items;
  each : All g.F.RowForm.fits l.left;
  fewer : length l.left ≤ length l.items;
}

abbrev pub decreases-loop-left : goal.decreases-loop-left
decreases-loop-left g l = length l.left
