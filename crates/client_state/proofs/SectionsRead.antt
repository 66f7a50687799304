-- Rows are a form of a state exactly where their sections are those of its parts.
use Rattle.std.proofs.Common.{◌≡◌, ◌∷◌, [], List, ℕ, inl, inr, get_or, sym, ap, ◌∙◌, subst}
use Rattle.row_batches.specs.declared.store_row.StoreRow.{StoreRow}
use Rattle.state_values.specs.Values.{bit, participation_byte}
use Rattle.state_codec.specs.Forms.{IsLaterForm}
use Rattle.state_codec.specs.Encoding.{later_rows}
use Rattle.client_state.specs.declared.client_state.ClientState.{ClientState}
use Rattle.client_state.specs.declared.sections.Sections.{Sections}
use Rattle.client_state.specs.Forms.{IsForm}
use Rattle.client_state.specs.Sections.{AreSoundParts, HasSections, divided, ends, lists_of}
use Rattle.client_state.specs.Sound.{IsSound}
use Rattle.client_state.specs.Encoding.{rows_with}
use Rattle.client_state.proofs.Divided.{lists, of_sections, own_sections, sections as own}
use Rattle.client_state.proofs.Forms.{byte_of}
use Rattle.client_state.proofs.Lengths.{enrolment_sound}

pub form_sections : (s : ClientState) (rows : List StoreRow) (sections : Sections) → lists_of sections ≡ divided ends rows → IsForm s rows → HasSections s sections
form_sections s rows sections are form =
    let with_byte = byte_of s rows form in
    let same : lists_of sections ≡ lists own with_byte.byte s = are ∙ ap (λ (rs : List StoreRow). divided ends rs) with_byte.same ∙ own_sections with_byte.byte s in
    let at = λ (i : ℕ). ap (λ (l : List (List StoreRow)). get_or l i []) same in
    record {
      enrolment = record { first_are = at 0; later_are = subst (IsLaterForm s.enrolment) (sym (at 3)) with_byte.later };
      events = at 1;
      holds = at 2;
      outbox = at 4;
      values = at 5;
    }

rows_are : (byte : ℕ) (s : ClientState) (rows : List StoreRow) (sections : Sections) → lists_of sections ≡ divided ends rows → HasSections s sections → sections.later.now ≡ later_rows byte s.enrolment → rows ≡ rows_with byte s
rows_are byte s rows sections are has later =
    let first = has.enrolment.first_are in
    let events = has.events in
    let holds = has.holds in
    let outbox = has.outbox in
    let values = has.values in
    of_sections byte s rows (sym are ∙ (λ i. first i ∷ events i ∷ holds i ∷ later i ∷ outbox i ∷ values i ∷ []))

form_by : (s : ClientState) (rows : List StoreRow) (sections : Sections) → lists_of sections ≡ divided ends rows → HasSections s sections → IsLaterForm s.enrolment sections.later.now → IsForm s rows
form_by s rows sections are has (inl is) = inl (rows_are (participation_byte s.enrolment) s rows sections are has is)
form_by s rows sections are has (inr old) = inr (record { one_flag = old.one_flag; same = rows_are (bit s.enrolment.experiments) s rows sections are has old.same })

pub sections_form : (s : ClientState) (rows : List StoreRow) (sections : Sections) → lists_of sections ≡ divided ends rows → HasSections s sections → IsForm s rows
sections_form s rows sections are has = form_by s rows sections are has has.enrolment.later_are

-- each part of a sound state is sound
pub sound_parts : (s : ClientState) → IsSound s → AreSoundParts s
sound_parts s is = record { enrolment = enrolment_sound s is; events = is.consistent.events; outbox = is.consistent.outbox; preferences = is.consistent.preferences }
