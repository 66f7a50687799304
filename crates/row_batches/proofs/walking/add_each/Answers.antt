-- One item more.
use Rattle.row_batches.proofs.ItemWalks.{more_rows, all_rows_so_far}
use Rattle.row_batches.proofs.walking.add_each.Goals as goal

pub loop-item-preserved : goal.loop-item-preserved
loop-item-preserved g c =
    more_rows (g.F.RowForm.has_row c.args.form.now) (g.F.RowForm.key c.args.form.now) (g.F.RowForm.value c.args.form.now) c.args.items.now c.loop-item.item-index c.item-item.result _ _ _ c.loop-item-test.true c.item-item.is c.loop-item.invariant c.in_ok-add_row.ensures

pub returns : goal.returns
returns g c = all_rows_so_far (g.F.RowForm.has_row c.args.form.now) (g.F.RowForm.key c.args.form.now) (g.F.RowForm.value c.args.form.now) c.args.items.now c.loop-item.item-index _ _ c.loop-item-test.false c.loop-item.invariant
