-- What follows a change: nothing without a next enrolment, or where no enrolment changes, and else the changes of enrolments.
use Rattle.std.proofs.Common.{◌≡◌, ◌+◌, ◌≤◌, ℕ, false, List, [], ◌∷◌, Option, None, Some, length, refl, sym, ap, ◌∙◌, subst, arith}
use Rattle.std.specs.Prelude.{nat_lt}
use Rattle.std.specs.Option.{unwrap_or}
use Rattle.std.proofs.lemmas.Bool.{le-ltb}
use Rattle.std.proofs.lemmas.List.{append-nil}
use Rattle.enrol_states.specs.declared.state.State.{State}
use Rattle.fml_types.specs.declared.manifest.Manifest.{Manifest}
use Rattle.change_outbox.specs.Contents as contents
use Rattle.change_outbox.specs.Contents.{Contents, appended, last_number, numbered}
use Rattle.change_outbox.specs.declared.change.Change.{Change}
use Rattle.change_outbox.proofs.Numbers.{appended-again, length-numbered}
use Rattle.pref_bindings.specs.declared.bindings.Binding.{Binding}
use Rattle.pref_bindings.specs.declared.next_preferences.NextPreferences.{NextPreferences}
use Rattle.pref_bindings.specs.declared.preference.Preference.{Preference}
use Rattle.client_state.specs.Changes.{HasHoldersOfBefore, IsChangeOf, IsNextOutbox, IsNextPreferencesIf, IsWholeChangeOf, enrolment_after, preferences_or, state_after}
use Rattle.client_state.specs.Following.{changes_done, changes_from, followed, is_spent_after, join_done, join_values, joins_done, leave_done, leaves_done, outbox_after, preferences_after, spends}
use Rattle.client_state.specs.Sound.{HaveEnrolledHolders, IsConsistent}
use Rattle.client_state.specs.declared.client_state.ClientState.{ClientState}
use Rattle.client_state.specs.declared.state_change.NextEnrolment.{NextEnrolment}
use Rattle.client_state.specs.declared.state_change.StateChange.{StateChange}
use Rattle.client_state.proofs.Changed.{outbox_sound}
use Rattle.client_state.proofs.HoldersAfter.{holders_after, holders_stay}

appended_none : (o : Contents) → appended [] o ≡ o
appended_none o = let next : o.next + 0 ≡ o.next = omega arith in (λ i. record { next = next i; entries = append-nil o.entries i })

-- ---- numbers of changes don't matter

none_numbered : (n : ℕ) (cs : List Change) → numbered n cs ≡ [] → cs ≡ []
none_numbered n [] none = refl
none_numbered n (c ∷ cs) none = absurd cc

leaves-again : (n : ℕ) (cs : List Change) (ps : List Preference) → leaves_done (numbered n cs) ps ≡ leaves_done cs ps
leaves-again n [] ps = refl
leaves-again n (c ∷ cs) ps = leaves-again (n + 1) cs (leave_done c.kind c.slug ps)

module _ (m : Option Manifest) (bs : Option (List Binding)) (e : State) where
  joins-again : (n : ℕ) (cs : List Change) (ps : List Preference) → joins_done (join_values m bs e) (numbered n cs) ps ≡ joins_done (join_values m bs e) cs ps
  joins-again n [] ps = refl
  joins-again n (c ∷ cs) ps = joins-again (n + 1) cs (join_done c.kind c.slug (join_values m bs e c) ps)

  done-again : (n : ℕ) (cs : List Change) (ps : List Preference) → changes_done (join_values m bs e) (numbered n cs) ps ≡ changes_done (join_values m bs e) cs ps
  done-again n cs ps = joins-again n cs (leaves_done (numbered n cs) ps) ∙ ap (joins_done (join_values m bs e) cs) (leaves-again n cs ps)

module _ (s : ClientState) (change : StateChange) where
  abbrev outbox_before : Contents
  outbox_before = unwrap_or change.outbox s.outbox

  abbrev preferences_before : List Preference
  preferences_before = preferences_or change.preferences s.preferences

  -- what follows, where this is the next enrolment
  abbrev with_next : Option Manifest → Option (List Binding) → Option NextEnrolment → ClientState
  with_next m bs next = let t = state_after change s in record t {
    outbox = outbox_after s.enrolment next t.outbox;
    preferences = preferences_after m bs s.enrolment next t.preferences;
  }

  -- the holders of these preferences are enrolled, where this is the next enrolment
  abbrev HaveHolders : List Preference → Option NextEnrolment → Type 0
  HaveHolders ps next = HaveEnrolledHolders (enrolment_after next s.enrolment) ps

  -- ---- without a next enrolment

  pub none_followed : (m : Option Manifest) (bs : Option (List Binding)) → change.enrolment ≡ None → state_after change s ≡ followed m bs change s
  none_followed m bs none = sym (ap (with_next m bs) none)

  pub none_whole : IsChangeOf s change → HasHoldersOfBefore s change → change.enrolment ≡ None → IsWholeChangeOf s change
  none_whole is have none = record { parts = is; holders = subst (HaveHolders preferences_before) (sym none) have }

  pub none_spent : change.enrolment ≡ None → spends change s ≡ false
  none_spent none = ap (λ (next : Option NextEnrolment). is_spent_after s.enrolment next outbox_before) none

  -- ---- with one

  module _ (next : NextEnrolment) (some : change.enrolment ≡ Some next) where
    abbrev told : List Change
    told = changes_from s.enrolment next.state

    spent_by : (cs : List Change) → cs ≡ told → spends change s ≡ nat_lt last_number (outbox_before.next + length cs)
    spent_by cs are =
        ap (λ (n : Option NextEnrolment). is_spent_after s.enrolment n outbox_before) some ∙ ap (λ (l : List Change). nat_lt last_number (outbox_before.next + length l)) (sym are)

    -- no enrolment changes
    pub empty_followed : (m : Option Manifest) (bs : Option (List Binding)) → numbered 0 told ≡ [] → state_after change s ≡ followed m bs change s
    empty_followed m bs none =
        let empty : told ≡ [] = none_numbered 0 told none in
        sym (ap (with_next m bs) some
        ∙ ap (λ (cs : List Change). let t = state_after change s in record t { outbox = appended cs t.outbox; preferences = changes_done (join_values m bs next.state) cs t.preferences }) empty
        ∙ ap (λ (o : Contents). record (state_after change s) { outbox = o }) (appended_none outbox_before))

    pub empty_whole : IsChangeOf s change → HasHoldersOfBefore s change → numbered 0 told ≡ [] → IsWholeChangeOf s change
    empty_whole is have none =
        record { parts = is; holders = subst (HaveHolders preferences_before) (sym some) (holders_stay s.enrolment next.state preferences_before (none_numbered 0 told none) have) }

    pub empty_spent : IsConsistent s → IsChangeOf s change → numbered 0 told ≡ [] → spends change s ≡ false
    empty_spent c is none =
        let sound : contents.IsSound outbox_before = outbox_sound change.outbox s.outbox c.outbox is.outbox in
        let least : outbox_before.next + 0 ≤ last_number = omega (arith, sound.numbered.last) in
        spent_by [] (sym (none_numbered 0 told none)) ∙ le-ltb last_number (outbox_before.next + 0) least

    -- these are the changes of enrolments
    module _ (cs : List Change) (are : cs ≡ numbered 0 told) where
      pub all_followed : (m : Option Manifest) (bs : Option (List Binding)) (o : Contents) (after : Option NextPreferences) → o ≡ appended cs outbox_before
          → preferences_or after s.preferences ≡ changes_done (join_values m bs next.state) cs preferences_before
          → state_after (record { enrolment = change.enrolment; events = change.events; outbox = Some o; preferences = after }) s ≡ followed m bs change s
      all_followed m bs o after is_outbox are_preferences =
          let outbox : o ≡ outbox_after s.enrolment change.enrolment outbox_before =
          is_outbox ∙ ap (λ (l : List Change). appended l outbox_before) are ∙ appended-again 0 told outbox_before ∙ sym (ap (λ (n : Option NextEnrolment). outbox_after s.enrolment n outbox_before) some)
          in
          let preferences : preferences_or after s.preferences ≡ preferences_after m bs s.enrolment change.enrolment preferences_before =
          are_preferences ∙ ap (λ (l : List Change). changes_done (join_values m bs next.state) l preferences_before) are ∙ done-again m bs next.state 0 told preferences_before
          ∙ sym (ap (λ (n : Option NextEnrolment). preferences_after m bs s.enrolment n preferences_before) some)
          in
          (λ i. record (state_after change s) { outbox = outbox i; preferences = preferences i })

      pub all_whole : (m : Option Manifest) (bs : Option (List Binding)) (o : Contents) (after : Option NextPreferences) → IsChangeOf s change → HasHoldersOfBefore s change → IsNextOutbox s.outbox o → IsNextPreferencesIf s.preferences after
          → preferences_or after s.preferences ≡ changes_done (join_values m bs next.state) cs preferences_before → IsWholeChangeOf s (record { enrolment = change.enrolment; events = change.events; outbox = Some o; preferences = after })
      all_whole m bs o after is have outbox_is preferences_are are_preferences =
          let values = join_values m bs next.state in
          let same : preferences_or after s.preferences ≡ changes_done values told preferences_before =
          are_preferences ∙ ap (λ (l : List Change). changes_done values l preferences_before) are ∙ done-again m bs next.state 0 told preferences_before
          in
          record {
            parts = record { enrolment = is.enrolment; events = is.events; outbox = outbox_is; preferences = preferences_are };
            holders = subst (HaveHolders (preferences_or after s.preferences)) (sym some) (subst (HaveEnrolledHolders next.state) (sym same) (holders_after s.enrolment next.state values preferences_before have));
          }

      -- whether their numbers are spent
      pub all_spent : spends change s ≡ nat_lt last_number (outbox_before.next + length cs)
      all_spent =
          let count : length told ≡ length cs = sym (length-numbered 0 told) ∙ ap length (sym are) in
          spent_by told refl ∙ ap (λ n. nat_lt last_number (outbox_before.next + n)) count
