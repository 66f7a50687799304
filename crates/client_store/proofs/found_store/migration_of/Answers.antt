-- The batch makes the rows of the state of their old form, and is ready.
use Rattle.std.proofs.Common.{ap, ◌∙◌, sym}
use Rattle.row_store.specs.Store.{StoredRows}
use Rattle.client_store.proofs.Migrating.{is_migration}
use Rattle.client_store.proofs.found_store.migration_of.Goals as goal

pub returns-clause-migration : goal.returns-clause-migration
returns-clause-migration c =
    let s = c.args.state.now in
    let rows = c.args.rows.now in
    let made = c.in_ok-batch.ensures in
    is_migration s c.state.result.now c.state.ensures.state rows.rows (c.are_old_form.ensures.old c.if-not-are_old_form.false s c.requires) (sym c.are_old_form.ensures.row ∙ c.if-not-are_old_form.false)
    c.prepare.new.self (c.prepare.ensures.rows ∙ ap (λ (stored : StoredRows). stored.rows) c.are_old_form.ensures.same) c.in_ok-batch.batch made.gives made.whole made.size _ c.in_ok-prepare.ensures.ready c.in_ok-prepare.ensures.batch
