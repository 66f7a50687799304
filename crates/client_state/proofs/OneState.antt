-- Rows, and bytes, are a form of one sound state at most.
use Rattle.std.proofs.Common.{◌≡◌, ◌++◌, [], ℕ, List, IsTrue, inl, get_or, refl, sym, ap, ap₂, ◌∙◌, subst}
use Rattle.std.specs.Prelude.{◌↔◌}
use Rattle.std.specs.Cmp.Lexicographic.{bytes_decides}
use Rattle.row_batches.specs.Batch.{whole_of}
use Rattle.row_batches.specs.declared.store_row.StoreRow.{StoreRow}
use Rattle.row_batches.proofs.Cleared.{one_whole}
use Rattle.row_batches.proofs.OneEncoding.{one_encoding as batch_encoding}
use Rattle.event_counts.proofs.SameRows.{one_list_of_rows}
use Rattle.change_outbox.proofs.OneList.{one_list}
use Rattle.pref_bindings.proofs.OneList.{one_list as one_list_of_preferences}
use Rattle.state_codec.specs.Forms.{AreParts, IsLaterForm}
use Rattle.state_codec.specs.Encoding.{first_rows, later_rows}
use Rattle.state_codec.proofs.Forms.{parts_read}
use Rattle.state_codec.proofs.Encoded.{one_state}
use Rattle.client_state.specs.declared.client_state.ClientState.{ClientState}
use Rattle.client_state.specs.Forms.{IsForm, IsEncoded}
use Rattle.client_state.specs.Sections.{AreSoundParts, divided, ends}
use Rattle.client_state.specs.Sound.{IsSound}
use Rattle.client_state.specs.Encoding.{encoding, state_eq}
use Rattle.client_state.proofs.Divided.{lists, own_sections, sections}
use Rattle.client_state.proofs.Forms.{Text, byte_of, form_rises, form_rule, text_of_form}
use Rattle.client_state.proofs.SectionsRead.{sound_parts}

-- states whose sections have the same rows
one_of_lists : (b c : ℕ) (s t : ClientState) → AreSoundParts s → AreSoundParts t → IsLaterForm s.enrolment (later_rows b s.enrolment) → IsLaterForm t.enrolment (later_rows c t.enrolment) → lists sections b s ≡ lists sections c t
    → s ≡ t
one_of_lists b c s t s_is t_is s_later t_later same =
    let at = λ (i : ℕ). ap (λ (l : List (List StoreRow)). get_or l i []) same in
    let first = first_rows s.enrolment in
    let later = later_rows b s.enrolment in
    let other : AreParts t.enrolment first later = record { first_are = at 0; later_are = subst (IsLaterForm t.enrolment) (sym (at 3)) t_later } in
    let enrolment : s.enrolment ≡ t.enrolment =
    one_state first later s.enrolment t.enrolment (parts_read first later s.enrolment s_is.enrolment (record { first_are = refl; later_are = s_later })) (parts_read first later t.enrolment t_is.enrolment other) in
    let counts : s.events ≡ t.events = one_list_of_rows s.events t.events s_is.events t_is.events (at 1) in
    let changes : s.outbox ≡ t.outbox = one_list s.outbox t.outbox s_is.outbox t_is.outbox (at 4) in
    let rows = ap₂ (λ (a b : List StoreRow). a ++ b) (at 2) (at 5) in
    let preferences : s.preferences ≡ t.preferences = one_list_of_preferences s.preferences t.preferences s_is.preferences t_is.preferences rows in
    λ i. record { enrolment = enrolment i; events = counts i; outbox = changes i; preferences = preferences i }

pub one_of_parts : (rows : List StoreRow) (s t : ClientState) → AreSoundParts s → AreSoundParts t → IsForm s rows → IsForm t rows → s ≡ t
one_of_parts rows s t s_is t_is s_has t_has =
    let one = byte_of s rows s_has in
    let other = byte_of t rows t_has in
    one_of_lists one.byte other.byte s t s_is t_is one.later other.later
    (sym (own_sections one.byte s) ∙ ap (λ (rs : List StoreRow). divided ends rs) (sym one.same ∙ other.same) ∙ own_sections other.byte t)

pub one_form : (rows : List StoreRow) (s t : ClientState) → IsSound s → IsSound t → IsForm s rows → IsForm t rows → s ≡ t
one_form rows s t s_is t_is s_has t_has = one_of_parts rows s t (sound_parts s s_is) (sound_parts t t_is) s_has t_has

one_text : (bytes : List ℕ) (s t : ClientState) → IsSound s → IsSound t → Text s bytes → Text t bytes → s ≡ t
one_text bytes s t s_is t_is a b =
    let whole : whole_of a.rows ≡ whole_of b.rows = batch_encoding (whole_of a.rows) (whole_of b.rows) (form_rule s a.rows s_is a.form) (form_rule t b.rows t_is b.form) (sym a.text ∙ b.text) in
    let rows : a.rows ≡ b.rows = one_whole a.rows b.rows (form_rises s a.rows s_is.consistent a.form) (form_rises t b.rows t_is.consistent b.form) whole in
    one_form a.rows s t s_is t_is a.form (subst (IsForm t) (sym rows) b.form)

pub one_encoded : (bytes : List ℕ) (s t : ClientState) → IsSound s → IsSound t → IsEncoded s bytes → IsEncoded t bytes → s ≡ t
one_encoded bytes s t s_is t_is s_has t_has = one_text bytes s t s_is t_is (text_of_form s bytes s_has) (text_of_form t bytes t_has)

pub one_encoding : (s t : ClientState) → IsSound s → IsSound t → encoding s ≡ encoding t → s ≡ t
one_encoding s t s_is t_is same = one_encoded (encoding s) s t s_is t_is (inl refl) (inl same)

-- so the test of encodings tells sound states apart
pub equal_are_one : (s t : ClientState) → IsSound s → IsSound t → IsTrue (state_eq s t) ↔ (s ≡ t)
equal_are_one s t s_is t_is =
    (λ equal. one_encoding s t s_is t_is ((bytes_decides (encoding s) (encoding t)).0 equal), λ same. (bytes_decides (encoding s) (encoding t)).1 (ap encoding same))
