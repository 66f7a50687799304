-- The state with empty parts has the rows of its enrolment, and is sound where that is.
use Rattle.std.proofs.Common.{◌≡◌, ◌++◌, ℕ, List, [], length, inl, inr, sym, ap, ◌∙◌, arith}
use Rattle.std.specs.List.Sorted.{IsStrictlySortedBy}
use Rattle.std.proofs.lemmas.List.{append-nil}
use Rattle.enrol_states.specs.Consistent as states
use Rattle.enrol_states.specs.declared.state.State.{State}
use Rattle.row_batches.specs.declared.store_row.StoreRow.{StoreRow}
use Rattle.event_counts.specs.Sound as counts
use Rattle.change_outbox.specs.Contents as contents
use Rattle.change_outbox.specs.Contents.{no_changes}
use Rattle.pref_bindings.specs.Preferences as preferences
use Rattle.state_values.specs.Values.{bit, participation_byte}
use Rattle.state_codec.specs.Forms as enrolment_forms
use Rattle.state_codec.specs.Sound as enrolments
use Rattle.state_codec.specs.Encoding as codec
use Rattle.state_codec.specs.Encoding.{first_rows, later_rows}
use Rattle.client_state.specs.Forms.{IsForm}
use Rattle.client_state.specs.Parts.{with_empty_parts}
use Rattle.client_state.specs.Sound.{IsConsistent, IsSound}
use Rattle.client_state.specs.Encoding.{rows_with, rows_of, encoding}
use Rattle.client_state.proofs.Lengths.{length-encoding}

pub rows_with_none : (byte : ℕ) (e : State) → rows_with byte (with_empty_parts e) ≡ codec.rows_with byte e
unfolding rows_with codec.rows_with
rows_with_none byte e = ap (λ (l : List StoreRow). first_rows e ++ l) (append-nil (later_rows byte e))

pub rows_of_enrolment : (e : State) → rows_of (with_empty_parts e) ≡ codec.rows_of e
rows_of_enrolment e = rows_with_none (participation_byte e) e

pub encoded_as_enrolment : (e : State) → length (encoding (with_empty_parts e)) ≡ length (codec.encoding e)
encoded_as_enrolment e = omega (arith, length-encoding (with_empty_parts e))

none_sound : counts.IsSound []
unfolding IsStrictlySortedBy
none_sound = record { most = omega arith; order = tt; names = tt }

no_changes_sound : contents.IsSound no_changes
no_changes_sound = record { numbered = record { first = omega arith; last = omega arith; numbers = tt }; slugs = tt }

no_preferences_sound : preferences.IsSound []
unfolding IsStrictlySortedBy
no_preferences_sound = record { names = tt; each = tt }

pub empty_is_consistent : (e : State) → states.IsConsistent e → IsConsistent (with_empty_parts e)
empty_is_consistent e is = record { enrolment = is; events = none_sound; outbox = no_changes_sound; preferences = no_preferences_sound; holders = tt }

pub empty_is_sound : (e : State) → enrolments.IsSound e → IsSound (with_empty_parts e)
empty_is_sound e is = record { consistent = empty_is_consistent e is.consistent; records = is.records; size = omega (arith, encoded_as_enrolment e, is.size) }

pub empty_has_form : (e : State) (rows : List StoreRow) → enrolment_forms.IsForm e rows → IsForm (with_empty_parts e) rows
empty_has_form e rows (inl is) = inl (is ∙ sym (rows_of_enrolment e))
empty_has_form e rows (inr old) = inr (record { one_flag = old.one_flag; same = old.same ∙ sym (rows_with_none (bit e.experiments) e) })
