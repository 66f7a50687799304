-- The changes are a batch, and the text of all rows after it is the encoding of the next state.
use Rattle.std.proofs.Common.{◌++◌, ◌∙◌, ap}
use Rattle.row_batches.specs.Between.{changes_between}
use Rattle.state_values.specs.Values.{participation_byte}
use Rattle.state_codec.specs.Encoding.{first_rows}
use Rattle.state_codec.proofs.Changed.{is_batch, gives_rows, gives_whole, is_short}
use Rattle.state_codec.proofs.Encoded.{batch_between}
use Rattle.state_codec.proofs.Joined.{all_added}
use Rattle.state_codec.proofs.changes.change_between.Goals as goal

pub of_changes-requires : goal.of_changes-requires
of_changes-requires c =
    let s = c.args.old.now in
    let t = c.args.new.now in
    is_batch s t c.add_later_changes.new.changes c.requires.old_state c.requires.new_state c.requires.old_size c.requires.new_size
    (all_added (participation_byte s) (participation_byte t) s t c.add_first_changes.new.changes c.add_later_changes.new.changes (c.in_ok-add_first_changes.ensures ∙ ap (λ l. l ++ changes_between (first_rows s) (first_rows t)) c.new-changes.ensures) c.in_ok-add_later_changes.ensures)

pub returns-clause-between : goal.returns-clause-between
returns-clause-between c =
    let s = c.args.old.now in
    let t = c.args.new.now in
    batch_between s t c.of_changes.result c.add_later_changes.new.changes c.of_changes.ensures
    (all_added (participation_byte s) (participation_byte t) s t c.add_first_changes.new.changes c.add_later_changes.new.changes (c.in_ok-add_first_changes.ensures ∙ ap (λ l. l ++ changes_between (first_rows s) (first_rows t)) c.new-changes.ensures) c.in_ok-add_later_changes.ensures)

pub returns-clause-gives : goal.returns-clause-gives
returns-clause-gives c = gives_rows c.args.old.now c.args.new.now c.of_changes.result c.requires.old_state c.requires.new_state (returns-clause-between c)

pub returns-clause-whole : goal.returns-clause-whole
returns-clause-whole c = gives_whole c.args.old.now c.args.new.now c.of_changes.result c.requires.old_state c.requires.new_state (returns-clause-between c)

pub returns-clause-size : goal.returns-clause-size
returns-clause-size c = is_short c.args.old.now c.args.new.now c.of_changes.result (returns-clause-between c)
