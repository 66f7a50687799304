-- A put of the row `p` is the batch between the two forms.
use Rattle.std.proofs.Common.{◌∙◌, ap, length}
use Rattle.row_batches.specs.Batch.{ChangeList, batch_text}
use Rattle.state_values.specs.Values.{participation_byte}
use Rattle.state_codec.proofs.Migrating.{of_list, one_change, one_rule, migrated, rows_migrated, text_migrated, nine}
use Rattle.state_codec.proofs.old_form.migration.Goals as goal

pub of_changes-requires : goal.of_changes-requires
of_changes-requires c =
    let s = c.args.state.now in
    one_rule s c.push.new.self (one_change s c.new-changes.result c.push.new.self c.in_ok-row.row c.new-changes.ensures c.in_ok-push.ensures.ok c.in_ok-row.ensures)

pub returns-clause-put : goal.returns-clause-put
returns-clause-put c =
    let s = c.args.state.now in
    c.of_changes.ensures ∙ ap of_list (one_change s c.new-changes.result c.push.new.self c.in_ok-row.row c.new-changes.ensures c.in_ok-push.ensures.ok c.in_ok-row.ensures)

pub returns-clause-between : goal.returns-clause-between
returns-clause-between c = migrated c.args.state.now c.of_changes.result (returns-clause-put c)

pub returns-clause-gives : goal.returns-clause-gives
returns-clause-gives c = rows_migrated c.args.state.now c.of_changes.result c.requires (returns-clause-between c)

pub returns-clause-whole : goal.returns-clause-whole
returns-clause-whole c = text_migrated c.args.state.now _ (returns-clause-gives c)

pub returns-clause-size : goal.returns-clause-size
returns-clause-size c = ap (λ (b : ChangeList). length (batch_text b)) (returns-clause-put c) ∙ nine (participation_byte c.args.state.now)
