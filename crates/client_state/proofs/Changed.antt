-- The changes between the rows of two states are a batch, and the text of all rows after it is the encoding of the next state.
use Rattle.std.proofs.Common.{◌≡◌, ◌≤◌, ◌<◌, ◌^◌, ◌+◌, false, List, Option, Some, None, length, sym, ap, subst}
use Rattle.std.specs.Option.{unwrap_or}
use Rattle.enrol_states.specs.Consistent as states
use Rattle.enrol_states.specs.declared.state.State.{State}
use Rattle.event_counts.specs.Sound as counts
use Rattle.event_counts.specs.declared.name_counts.NameCounts.{NameCounts}
use Rattle.change_outbox.specs.Contents as contents
use Rattle.change_outbox.specs.Contents.{Contents}
use Rattle.pref_bindings.specs.Preferences as preferences
use Rattle.pref_bindings.specs.declared.next_preferences.NextPreferences.{NextPreferences}
use Rattle.pref_bindings.specs.declared.preference.Preference.{Preference}
use Rattle.row_batches.specs.Batch.{ChangeList, IsBatch, applied, batch_text, whole_of}
use Rattle.row_batches.specs.Between.{changes_between, between}
use Rattle.row_batches.specs.declared.change.RowChange.{RowChange}
use Rattle.row_batches.proofs.Sizes.{between_short}
use Rattle.row_batches.proofs.Walks.{between_rule, applied_between}
use Rattle.client_state.specs.Changes.{IsNextEventsIf, IsNextOutboxIf, IsNextIf, IsNextPreferencesIf, IsWholeChangeOf, enrolment_after, events_after, preferences_or, state_after}
use Rattle.client_state.specs.Sound.{IsConsistent}
use Rattle.client_state.specs.Encoding.{rows_of, encoding}
use Rattle.client_state.specs.declared.client_state.ClientState.{ClientState}
use Rattle.client_state.specs.declared.state_change.NextEnrolment.{NextEnrolment}
use Rattle.client_state.specs.declared.state_change.NextEvents.{NextEvents}
use Rattle.client_state.specs.declared.state_change.StateChange.{StateChange}
use Rattle.client_state.proofs.KeyOrder.{rows_rise}
use Rattle.client_state.proofs.Room.{rows_room}

-- ---- what a change leaves

pub enrolment_consistent : (next : Option NextEnrolment) (e : State) → states.IsConsistent e → IsNextIf e next → states.IsConsistent (enrolment_after next e)
enrolment_consistent None e is can = is
enrolment_consistent (Some next) e is can = can.consistent

pub events_sound : (next : Option NextEvents) (ns : List NameCounts) → counts.IsSound ns → IsNextEventsIf ns next → counts.IsSound (events_after next ns)
events_sound None ns is can = is
events_sound (Some next) ns is can = can.sound

pub outbox_sound : (next : Option Contents) (o : Contents) → contents.IsSound o → IsNextOutboxIf o next → contents.IsSound (unwrap_or next o)
outbox_sound None o is can = is
outbox_sound (Some next) o is can = can.sound

pub preferences_sound : (next : Option NextPreferences) (ps : List Preference) → preferences.IsSound ps → IsNextPreferencesIf ps next → preferences.IsSound (preferences_or next ps)
preferences_sound None ps is can = is
preferences_sound (Some next) ps is can = can.sound

-- the state after one of its changes is one that a client can have
pub change_consistent : (s : ClientState) (change : StateChange) → IsConsistent s → IsWholeChangeOf s change → IsConsistent (state_after change s)
change_consistent s change is of =
    record {
      enrolment = enrolment_consistent change.enrolment s.enrolment is.enrolment of.parts.enrolment;
      events = events_sound change.events s.events is.events of.parts.events;
      outbox = outbox_sound change.outbox s.outbox is.outbox of.parts.outbox;
      preferences = preferences_sound change.preferences s.preferences is.preferences of.parts.preferences;
      holders = of.holders;
    }

-- ---- the batch between two states

abbrev of_list : List RowChange → ChangeList
of_list changes = record { clear = false; changes = changes }

pub is_batch : (s t : ClientState) (changes : List RowChange) → IsConsistent s → IsConsistent t → length (encoding s) < 2 ^ 32 → length (encoding t) < 2 ^ 32
    → changes ≡ changes_between (rows_of s) (rows_of t) → IsBatch (record { clear = false; changes = changes })
is_batch s t changes s_is t_is s_fits t_fits are =
    subst (λ (cs : List RowChange). IsBatch (of_list cs)) (sym are)
    (between_rule (rows_of s) (rows_of t) (rows_rise s s_is) (rows_rise t t_is) (rows_room s s_is s_fits) (rows_room t t_is t_fits))

pub gives_rows : (s t : ClientState) (batch : ChangeList) → IsConsistent s → IsConsistent t → batch ≡ between (rows_of s) (rows_of t) → applied batch (rows_of s) ≡ rows_of t
gives_rows s t batch s_is t_is is = applied_between (rows_of s) (rows_of t) batch (rows_rise s s_is) (rows_rise t t_is) is

pub gives_whole : (s t : ClientState) (batch : ChangeList) → IsConsistent s → IsConsistent t → batch ≡ between (rows_of s) (rows_of t) → batch_text (whole_of (applied batch (rows_of s))) ≡ encoding t
unfolding encoding
gives_whole s t batch s_is t_is is = ap (λ rows. batch_text (whole_of rows)) (gives_rows s t batch s_is t_is is)

pub is_short : (s t : ClientState) (batch : ChangeList) → batch ≡ between (rows_of s) (rows_of t) → length (batch_text batch) ≤ length (encoding s) + length (encoding t)
unfolding encoding
is_short s t batch is =
    subst (λ (b : ChangeList). length (batch_text b) ≤ length (batch_text (whole_of (rows_of s))) + length (batch_text (whole_of (rows_of t)))) (sym is) (between_short (rows_of s) (rows_of t))
