use Rattle.std.proofs.Common.{◌≡◌, ◌++◌, ◌+◌, All, length}
use Rattle.row_batches.specs.Between.{changes_between}
use Rattle.row_batches.specs.ItemRows.{item_rows}
use Rattle.row_batches.proofs.walking.walk.Given as goal

abbrev pub invariant-loop-old : goal.invariant-loop-old
invariant-loop-old g l = record {
  changes : l.changes ++ changes_between (item_rows (g.F.RowForm.has_row l.form) (g.F.RowForm.key l.form) (g.F.RowForm.value l.form) l.olds) (item_rows (g.F.RowForm.has_row l.form) (g.F.RowForm.key l.form) (g.F.RowForm.value l.form) l.news)
      ≡ l.initial.changes ++ changes_between (item_rows (g.F.RowForm.has_row l.form) (g.F.RowForm.key l.form) (g.F.RowForm.value l.form) l.fn.olds) (item_rows (g.F.RowForm.has_row l.form) (g.F.RowForm.key l.form) (g.F.RowForm.value l.form) l.fn.news);
  olds : All g.F.RowForm.fits l.olds;
  news : All g.F.RowForm.fits l.news;
}

abbrev pub decreases-loop-old : goal.decreases-loop-old
decreases-loop-old g l = length l.olds + length l.news
