-- The rows of a consistent state are in the order of their keys.
use Rattle.std.proofs.Common.{[], ◌∷◌, ℕ, List}
use Rattle.std.specs.List.{AllByRecursion}
use Rattle.sequences.proofs.Rising.{front_rises, behind_rises}
use Rattle.row_batches.specs.Rows.{AreRows, key_of}
use Rattle.row_batches.proofs.RowOrder.{rise_append}
use Rattle.event_counts.proofs.Rising as event_rows
use Rattle.change_outbox.proofs.Order as outbox_order
use Rattle.pref_bindings.specs.Rows.{hold_rows, value_rows}
use Rattle.pref_bindings.proofs.RowOrder as preference_order
use Rattle.state_codec.proofs.KeyOrder.{first_rise, later_rise}
use Rattle.state_values.specs.Values.{participation_byte}
use Rattle.client_state.specs.declared.client_state.ClientState.{ClientState}
use Rattle.client_state.specs.Sound.{IsConsistent}
use Rattle.client_state.specs.Encoding.{rows_with, rows_of}
use Rattle.client_state.proofs.Divided.{AreDivided, Section, are_divided, before, joined, sections}

-- sections are in order together where each is by itself
joined_rise : (from : ℕ) (xs : List Section) (byte : ℕ) (s : ClientState) → AreDivided from xs → AllByRecursion (λ (x : Section). AreRows (x.rows byte s)) xs → AreRows (value_rows s.preferences) → AreRows (joined xs byte s)
joined_rise from [] byte s are each last = last
joined_rise from (x ∷ xs) byte s are each last = rise_append (x.rows byte s) (joined xs byte s) each.0 (joined_rise x.end xs byte s are.1 each.1 last) (before from x xs byte byte s s are)

pub with_rise : (byte : ℕ) (s : ClientState) → IsConsistent s → AreRows (rows_with byte s)
unfolding rows_with
with_rise byte s is =
    let preferences = preference_order.rows_rise s.preferences is.preferences.names in
    let outbox = outbox_order.rows_rise s.outbox is.outbox.numbered in
    let events = event_rows.rows_rise s.events is.events.order in
    joined_rise 0 sections byte s are_divided (first_rise s.enrolment is.enrolment, (events, (front_rises key_of (hold_rows s.preferences) (value_rows s.preferences) preferences, (later_rise byte s.enrolment is.enrolment, (outbox, tt))))) (behind_rises key_of (hold_rows s.preferences) (value_rows s.preferences) preferences)

pub rows_rise : (s : ClientState) → IsConsistent s → AreRows (rows_of s)
rows_rise s is = with_rise (participation_byte s.enrolment) s is
