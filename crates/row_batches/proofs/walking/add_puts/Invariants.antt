use Rattle.std.proofs.Common.{◌≡◌, ◌++◌, [], take}
use Rattle.row_batches.specs.Between.{changes_between}
use Rattle.row_batches.specs.ItemRows.{item_rows}
use Rattle.row_batches.proofs.walking.add_puts.Given as goal

abbrev pub invariant-loop-item : goal.invariant-loop-item
invariant-loop-item g l = l.changes ≡ l.initial.changes ++ changes_between [] (item_rows (g.F.RowForm.has_row l.form) (g.F.RowForm.key l.form) (g.F.RowForm.value l.form) (take l.item-index l.items))
