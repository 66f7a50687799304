-- The rows of a client's state in the order of their keys, and its encoding: the batch that makes a store of them.
use Rattle.std.specs.Prelude.{ℕ, Bool, List, ◌++◌, bytes_eq}
use Rattle.row_batches.specs.Batch.{batch_text, whole_of}
use Rattle.row_batches.specs.declared.store_row.StoreRow.{StoreRow}
use Rattle.state_values.specs.Values.{participation_byte}
use Rattle.state_codec.specs.Encoding.{first_rows, later_rows}
use Rattle.event_counts.specs.Rows as count_rows
use Rattle.change_outbox.specs.Rows as change_rows
use Rattle.pref_bindings.specs.Rows.{hold_rows, value_rows}
use Rattle.client_state.specs.declared.client_state.ClientState.{ClientState}

-- the rows of the enrolment, the events, the outbox and the preferences, where this is the byte of participation
unfoldable pub rows_with : ℕ → ClientState → List StoreRow
rows_with byte s =
    first_rows s.enrolment
    ++ (count_rows.rows_of s.events ++ (hold_rows s.preferences ++ (later_rows byte s.enrolment ++ (change_rows.rows_of s.outbox ++ value_rows s.preferences))))

abbrev pub rows_of : ClientState → List StoreRow
rows_of s = rows_with (participation_byte s.enrolment) s

unfoldable pub encoding : ClientState → List ℕ
encoding s = batch_text (whole_of (rows_of s))

-- whether the states have one encoding; then sound states are the same
abbrev pub state_eq : ClientState → ClientState → Bool
state_eq s t = bytes_eq (encoding s) (encoding t)
