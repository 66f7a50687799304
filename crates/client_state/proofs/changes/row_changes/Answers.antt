-- The changes of each section in turn are those of all.
use Rattle.std.proofs.Common.{◌++◌, List, ◌∙◌, ap, sym}
use Rattle.row_batches.specs.Between.{changes_between}
use Rattle.row_batches.specs.declared.change.RowChange.{RowChange}
use Rattle.state_values.specs.Values.{participation_byte}
use Rattle.state_codec.specs.Encoding.{first_rows, later_rows}
use Rattle.state_codec.proofs.Added.{follow}
use Rattle.event_counts.specs.Rows as count_rows
use Rattle.change_outbox.specs.Rows as change_rows
use Rattle.pref_bindings.specs.Rows.{hold_rows, value_rows}
use Rattle.client_state.specs.Changes.{state_after}
use Rattle.client_state.proofs.Joined.{all_between}
use Rattle.client_state.proofs.changes.row_changes.Goals as goal

pub returns : goal.returns
returns c =
    let s = c.args.old.now in
    let t = state_after c.args.change.now s in
    let b = participation_byte s.enrolment in
    let d = participation_byte t.enrolment in
    let first : List RowChange = changes_between (first_rows s.enrolment) (first_rows t.enrolment) in
    let events : List RowChange = changes_between (count_rows.rows_of s.events) (count_rows.rows_of t.events) in
    let holds : List RowChange = changes_between (hold_rows s.preferences) (hold_rows t.preferences) in
    let later : List RowChange = changes_between (later_rows b s.enrolment) (later_rows d t.enrolment) in
    let outbox : List RowChange = changes_between (change_rows.rows_of s.outbox) (change_rows.rows_of t.outbox) in
    let values : List RowChange = changes_between (value_rows s.preferences) (value_rows t.preferences) in
    let from_outbox = follow outbox values c.add_later.new.changes c.in_ok-add_outbox.ensures c.in_ok-add_values.ensures in
    let from_later = follow later (outbox ++ values) c.add_holds.new.changes c.in_ok-add_later.ensures from_outbox in
    let from_holds = follow holds (later ++ (outbox ++ values)) c.add_events.new.changes c.in_ok-add_holds.ensures from_later in
    let from_events = follow events (holds ++ (later ++ (outbox ++ values))) c.add_first.new.changes c.in_ok-add_events.ensures from_holds in
    let from_first = follow first (events ++ (holds ++ (later ++ (outbox ++ values)))) c.new-changes.result c.in_ok-add_first.ensures from_events in
    from_first ∙ ap (λ (cs : List RowChange). cs ++ (first ++ (events ++ (holds ++ (later ++ (outbox ++ values)))))) c.new-changes.ensures ∙ sym (all_between b d s t)
