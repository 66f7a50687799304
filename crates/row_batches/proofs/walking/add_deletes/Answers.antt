-- One item more.
use Rattle.std.proofs.Common.{[]}
use Rattle.row_batches.specs.Between.{changes_between}
use Rattle.row_batches.proofs.ItemWalks.{more_made, all_made, gone-append}
use Rattle.row_batches.proofs.walking.add_deletes.Goals as goal

pub loop-item-preserved : goal.loop-item-preserved
loop-item-preserved g c =
    more_made (g.F.RowForm.has_row c.args.form.now) (g.F.RowForm.key c.args.form.now) (g.F.RowForm.value c.args.form.now) (λ rows. changes_between rows []) gone-append c.args.items.now c.loop-item.item-index c.item-item.result _ _ _ c.loop-item-test.true c.item-item.is c.loop-item.invariant c.in_ok-add_delete.ensures

pub returns : goal.returns
returns g c = all_made (g.F.RowForm.has_row c.args.form.now) (g.F.RowForm.key c.args.form.now) (g.F.RowForm.value c.args.form.now) (λ rows. changes_between rows []) gone-append c.args.items.now c.loop-item.item-index _ _ c.loop-item-test.false c.loop-item.invariant
