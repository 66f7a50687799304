-- The forms of a state: both are batches of one length, and each is told from the other by the row `p`.
use Rattle.std.proofs.Common.{◌≡◌, ◌<◌, ◌^◌, ◌++◌, List, ℕ, Bool, true, false, inl, inr, length, refl, sym, ap, ◌∙◌, subst, arith}
use Rattle.std.specs.Prelude.{◌||◌}
use Rattle.std.specs.List.{AllByRecursion}
use Rattle.std.proofs.Math.Bool.{or-false}
use Rattle.std.proofs.lemmas.List.Folds.{list_any_none, list_any-append}
use Rattle.row_batches.specs.Batch.{IsBatch, batch_text, whole_of}
use Rattle.row_batches.specs.Batches.{HaveRoom}
use Rattle.row_batches.specs.Rows.{AreRows}
use Rattle.row_batches.specs.declared.store_row.StoreRow.{StoreRow}
use Rattle.row_batches.proofs.ItemWalks.{all_are}
use Rattle.row_batches.proofs.Walks.{whole_rule}
use Rattle.event_counts.specs.Rows as count_rows
use Rattle.change_outbox.specs.Rows as change_rows
use Rattle.pref_bindings.specs.Rows.{hold_rows, value_rows}
use Rattle.state_values.specs.Values.{bit, participation_byte}
use Rattle.state_codec.specs.Forms.{IsLaterForm, is_old}
use Rattle.state_codec.specs.Encoding.{first_rows, later_rows}
use Rattle.state_codec.proofs.Forms.{later_is_new, later_is_old}
use Rattle.state_codec.proofs.Letters.{first_all}
use Rattle.client_state.specs.declared.client_state.ClientState.{ClientState}
use Rattle.client_state.specs.Forms.{IsForm, IsOldForm, IsEncoded, needs_migration, old_rows, old_encoding}
use Rattle.client_state.specs.Sound.{IsConsistent, IsSound}
use Rattle.client_state.specs.Encoding.{rows_with, rows_of, encoding}
use Rattle.client_state.proofs.KeyOrder.{with_rise}
use Rattle.client_state.proofs.Letters.{events_all, holds_all, outbox_all, values_all}
use Rattle.client_state.proofs.Room.{with_room}
use Rattle.client_state.proofs.Lengths.{length-byte}

-- ---- their byte of participation

pub record WithByte (s : ClientState) (rows : List StoreRow) : Type 0 where
  pub byte : ℕ
  pub same : rows ≡ rows_with byte s
  pub later : IsLaterForm s.enrolment (later_rows byte s.enrolment)

pub byte_of : (s : ClientState) (rows : List StoreRow) → IsForm s rows → WithByte s rows
byte_of s rows (inl is) = record { byte = participation_byte s.enrolment; same = is; later = inl refl }
byte_of s rows (inr old) = record { byte = bit s.enrolment.experiments; same = old.same; later = inr (record { one_flag = old.one_flag; same = refl }) }

-- ---- both are batches

pub form_rises : (s : ClientState) (rows : List StoreRow) → IsConsistent s → IsForm s rows → AreRows rows
form_rises s rows is form = let with_byte = byte_of s rows form in subst AreRows (sym with_byte.same) (with_rise with_byte.byte s is)

pub form_size : (s : ClientState) (rows : List StoreRow) → IsForm s rows → length (batch_text (whole_of rows)) ≡ length (encoding s)
unfolding encoding
form_size s rows form =
    let with_byte = byte_of s rows form in
    ap (λ (rs : List StoreRow). length (batch_text (whole_of rs))) with_byte.same ∙ length-byte with_byte.byte (participation_byte s.enrolment) s

pub form_room : (s : ClientState) (rows : List StoreRow) → IsSound s → IsForm s rows → HaveRoom rows
form_room s rows sound form =
    let with_byte = byte_of s rows form in
    let fits : length (batch_text (whole_of rows)) < 2 ^ 32 = omega (arith, form_size s rows form, sound.size) in
    subst HaveRoom (sym with_byte.same) (with_room with_byte.byte s sound.consistent (subst (λ (rs : List StoreRow). length (batch_text (whole_of rs)) < 2 ^ 32) with_byte.same fits))

pub form_rule : (s : ClientState) (rows : List StoreRow) → IsSound s → IsForm s rows → IsBatch (whole_of rows)
form_rule s rows sound form = whole_rule rows (form_rises s rows sound.consistent form) (form_room s rows sound form)

-- ---- their bytes

-- a form of the state that these bytes encode
pub record Text (s : ClientState) (bytes : List ℕ) : Type 0 where
  pub rows : List StoreRow
  pub form : IsForm s rows
  pub text : bytes ≡ batch_text (whole_of rows)

pub text_of_form : (s : ClientState) (bytes : List ℕ) → IsEncoded s bytes → Text s bytes
unfolding encoding old_encoding
text_of_form s bytes (inl is) = record { rows = rows_of s; form = inl refl; text = is }
text_of_form s bytes (inr old) = record { rows = old_rows s; form = inr (record { one_flag = old.one_flag; same = refl }); text = old.same }

-- ---- the row `p` tells them apart

none_old : (rows : List StoreRow) → AllByRecursion (λ r. is_old r ≡ false) rows → needs_migration rows ≡ false
none_old rows none = list_any_none is_old rows (all_are (λ r. is_old r ≡ false) rows none)

none_in_front : (front rest : List StoreRow) → AllByRecursion (λ r. is_old r ≡ false) front → needs_migration (front ++ rest) ≡ needs_migration rest
none_in_front front rest none = list_any-append is_old front rest ∙ ap (λ b. b || needs_migration rest) (none_old front none)

with_byte : (byte : ℕ) (s : ClientState) → needs_migration (rows_with byte s) ≡ needs_migration (later_rows byte s.enrolment)
unfolding rows_with
with_byte byte s =
    let none = λ (r : StoreRow). is_old r ≡ false in
    let later = later_rows byte s.enrolment in
    none_in_front (first_rows s.enrolment) _ (first_all none s.enrolment (λ rest value. refl))
    ∙ none_in_front (count_rows.rows_of s.events) _ (events_all none s.events (λ rest value. refl))
    ∙ none_in_front (hold_rows s.preferences) _ (holds_all none s.preferences (λ rest value. refl))
    ∙ list_any-append is_old later (change_rows.rows_of s.outbox ++ value_rows s.preferences)
    ∙ ap (λ b. needs_migration later || b)
    (none_in_front (change_rows.rows_of s.outbox) (value_rows s.preferences) (outbox_all none s.outbox (λ rest value. refl))
    ∙ none_old (value_rows s.preferences) (values_all none s.preferences (λ rest value. refl)))
    ∙ or-false (needs_migration later)

pub encoded_is_new : (s : ClientState) → needs_migration (rows_of s) ≡ false
encoded_is_new s = with_byte (participation_byte s.enrolment) s ∙ later_is_new s.enrolment

pub old_is_old : (s : ClientState) → needs_migration (old_rows s) ≡ true
old_is_old s = with_byte (bit s.enrolment.experiments) s ∙ later_is_old s.enrolment

true_false : (b : Bool) → b ≡ true → b ≡ false → ⊥
true_false b is other = absurd cc

pub old_where : (rows : List StoreRow) (s : ClientState) → needs_migration rows ≡ true → IsForm s rows → IsOldForm s rows
old_where rows s needs (inl is) = absurd (true_false (needs_migration rows) needs (ap needs_migration is ∙ encoded_is_new s))
old_where rows s needs (inr old) = old

pub new_where : (rows : List StoreRow) (s : ClientState) → needs_migration rows ≡ false → IsForm s rows → rows ≡ rows_of s
new_where rows s none (inl is) = is
new_where rows s none (inr old) = absurd (true_false (needs_migration rows) (ap needs_migration old.same ∙ old_is_old s) none)

-- rows are encoded or an old form, and never both
pub apart : (s t : ClientState) (rows : List StoreRow) → rows ≡ rows_of s → IsOldForm t rows → ⊥
apart s t rows is old = true_false (needs_migration rows) (ap needs_migration old.same ∙ old_is_old t) (ap needs_migration is ∙ encoded_is_new s)
