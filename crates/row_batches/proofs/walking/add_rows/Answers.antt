-- The rows of the form are those of each item.
use Rattle.std.proofs.Common.{◌++◌, ◌∙◌, List, ap, sym}
use Rattle.std.proofs.lemmas.Result.{on_ok_weaker}
use Rattle.row_batches.specs.declared.store_row.StoreRow.{StoreRow}
use Rattle.row_batches.proofs.ItemWalks.{as_items}
use Rattle.row_batches.proofs.walking.add_rows.Goals as goal

pub returns : goal.returns
returns g c =
    on_ok_weaker c.add_each.result (λ is. is ∙ ap (λ (l : List StoreRow). c.args.rows.now ++ l) (sym (as_items (g.F.RowForm.has_row c.args.form.now) (g.F.RowForm.key c.args.form.now) (g.F.RowForm.value c.args.form.now) (g.F.RowForm.rows c.args.form.now) (g.met.F.RowForm.none c.args.form.now) (g.met.F.RowForm.each c.args.form.now) c.args.items.now))) c.add_each.ensures
