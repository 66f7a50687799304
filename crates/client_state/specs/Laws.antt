-- Laws of the definitions alone.
use Rattle.std.specs.Prelude.{◌≡◌, ◌↔◌, ℕ, List, IsTrue}
use Rattle.enrol_states.specs.declared.state.State.{State}
use Rattle.row_batches.specs.declared.store_row.StoreRow.{StoreRow}
use Rattle.state_codec.specs.Forms as enrolment_forms
use Rattle.state_codec.specs.Sound as enrolments
use Rattle.state_codec.specs.Encoding as enrolment_rows
use Rattle.client_state.specs.declared.client_state.ClientState.{ClientState}
use Rattle.client_state.specs.Forms.{IsForm, IsEncoded}
use Rattle.client_state.specs.Parts.{with_empty_parts}
use Rattle.client_state.specs.Encoding.{rows_of, encoding, state_eq}
use Rattle.client_state.specs.Sound.{IsSound}

-- sound states that have one encoding are one
abbrev pub IsOneToOne : Type 0
IsOneToOne = (s t : ClientState) → IsSound s → IsSound t → encoding s ≡ encoding t → s ≡ t

-- so the test of it tells them apart
abbrev pub EqualStatesAreOne : Type 0
EqualStatesAreOne = (s t : ClientState) → IsSound s → IsSound t → IsTrue (state_eq s t) ↔ (s ≡ t)

-- rows are a form of one sound state at most
abbrev pub IsFormOfOne : Type 0
IsFormOfOne = (rows : List StoreRow) (s t : ClientState) → IsSound s → IsSound t → IsForm s rows → IsForm t rows → s ≡ t

-- and so are bytes
abbrev pub IsEncodedByOne : Type 0
IsEncodedByOne = (bytes : List ℕ) (s t : ClientState) → IsSound s → IsSound t → IsEncoded s bytes → IsEncoded t bytes → s ≡ t

-- a state with empty parts has the rows of its enrolment
abbrev pub EmptyPartsHaveNoRows : Type 0
EmptyPartsHaveNoRows = (e : State) → rows_of (with_empty_parts e) ≡ enrolment_rows.rows_of e

-- and each form of a sound enrolment is one of the sound state with empty parts
abbrev pub FormsOfEnrolmentsStand : Type 0
FormsOfEnrolmentsStand = (e : State) (rows : List StoreRow) → enrolments.IsSound e → enrolment_forms.IsForm e rows → IsSound (with_empty_parts e) × IsForm (with_empty_parts e) rows
