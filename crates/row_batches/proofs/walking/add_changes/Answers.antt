-- The rows of the form are those of each item.
use Rattle.std.proofs.Common.{◌++◌, ◌∙◌, List, ap₂, sym}
use Rattle.std.proofs.lemmas.Result.{on_ok_weaker}
use Rattle.row_batches.specs.declared.store_row.StoreRow.{StoreRow}
use Rattle.row_batches.specs.Between.{changes_between}
use Rattle.row_batches.proofs.ItemWalks.{as_items}
use Rattle.row_batches.proofs.walking.add_changes.Goals as goal

pub returns : goal.returns
returns g c =
    let olds = sym (as_items (g.F.RowForm.has_row c.args.form.now) (g.F.RowForm.key c.args.form.now) (g.F.RowForm.value c.args.form.now) (g.F.RowForm.rows c.args.form.now) (g.met.F.RowForm.none c.args.form.now) (g.met.F.RowForm.each c.args.form.now) c.args.olds.now) in
    let news = sym (as_items (g.F.RowForm.has_row c.args.form.now) (g.F.RowForm.key c.args.form.now) (g.F.RowForm.value c.args.form.now) (g.F.RowForm.rows c.args.form.now) (g.met.F.RowForm.none c.args.form.now) (g.met.F.RowForm.each c.args.form.now) c.args.news.now) in
    on_ok_weaker c.walk.result (λ is. is ∙ ap₂ (λ (rs ss : List StoreRow). c.args.changes.now ++ changes_between rs ss) olds news) c.walk.ensures
