-- The batch between the two forms of a state's rows is a put of the row `p`.
use Rattle.std.proofs.Common.{◌≡◌, ◌++◌, ◌∷◌, [], ℕ, List, false, sym, ap, ◌∙◌}
use Rattle.row_batches.specs.Batch.{ChangeList, applied, batch_text, whole_of}
use Rattle.row_batches.specs.Between.{changes_between, between}
use Rattle.row_batches.specs.declared.change.RowChange.{RowChange}
use Rattle.row_batches.specs.declared.change.RowChange.TheVariants.{Put}
use Rattle.row_batches.specs.declared.store_row.StoreRow.{StoreRow}
use Rattle.row_batches.proofs.Walks.{applied_between}
use Rattle.std.proofs.lemmas.List.{append-nil}
use Rattle.event_counts.specs.Rows as count_rows
use Rattle.change_outbox.specs.Rows as change_rows
use Rattle.pref_bindings.specs.Rows.{hold_rows, value_rows}
use Rattle.state_values.specs.Values.{bit, participation_byte}
use Rattle.state_codec.specs.Encoding as codec
use Rattle.state_codec.specs.Encoding.{row, first_rows, later_rows}
use Rattle.state_codec.proofs.Joined.{between_itself}
use Rattle.state_codec.proofs.Migrating as codec_migrating
use Rattle.state_codec.proofs.Migrating.{same_front}
use Rattle.client_state.specs.declared.client_state.ClientState.{ClientState}
use Rattle.client_state.specs.Forms.{old_rows}
use Rattle.client_state.specs.Sound.{IsConsistent}
use Rattle.client_state.specs.Encoding.{rows_with, rows_of, encoding}
use Rattle.client_state.proofs.Joined.{all_between}
use Rattle.client_state.proofs.KeyOrder.{with_rise}

-- only the later rows differ
with_bytes : (byte other : ℕ) (s : ClientState) → changes_between (rows_with byte s) (rows_with other s) ≡ changes_between (codec.rows_with byte s.enrolment) (codec.rows_with other s.enrolment)
unfolding codec.rows_with
with_bytes byte other s =
    let changes = changes_between (later_rows byte s.enrolment) (later_rows other s.enrolment) in
    let first = between_itself (first_rows s.enrolment) in
    let events = between_itself (count_rows.rows_of s.events) in
    let holds = between_itself (hold_rows s.preferences) in
    let outbox = between_itself (change_rows.rows_of s.outbox) in
    let values = between_itself (value_rows s.preferences) in
    all_between byte other s s
    ∙ (λ i. first i ++ (events i ++ (holds i ++ (changes ++ (outbox i ++ values i)))))
    ∙ append-nil changes
    ∙ sym (same_front (first_rows s.enrolment) (later_rows byte s.enrolment) (later_rows other s.enrolment))

pub migrating : (s : ClientState) → changes_between (old_rows s) (rows_of s) ≡ Put (row (112 ∷ []) (participation_byte s.enrolment ∷ [])) ∷ []
migrating s = with_bytes (bit s.enrolment.experiments) (participation_byte s.enrolment) s ∙ codec_migrating.migrating s.enrolment

abbrev pub of_list : List RowChange → ChangeList
of_list changes = record { clear = false; changes = changes }

pub migrated : (s : ClientState) (batch : ChangeList) → batch ≡ record { clear = false; changes = Put (row (112 ∷ []) (participation_byte s.enrolment ∷ [])) ∷ [] } → batch ≡ between (old_rows s) (rows_of s)
migrated s batch is = is ∙ ap of_list (sym (migrating s))

pub rows_migrated : (s : ClientState) (batch : ChangeList) → IsConsistent s → batch ≡ between (old_rows s) (rows_of s) → applied batch (old_rows s) ≡ rows_of s
rows_migrated s batch is between_is = applied_between (old_rows s) (rows_of s) batch (with_rise (bit s.enrolment.experiments) s is) (with_rise (participation_byte s.enrolment) s is) between_is

pub text_migrated : (s : ClientState) (rows : List StoreRow) → rows ≡ rows_of s → batch_text (whole_of rows) ≡ encoding s
unfolding encoding
text_migrated s rows is = ap (λ (rs : List StoreRow). batch_text (whole_of rs)) is
