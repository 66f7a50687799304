-- Nobody holds a preference whose holder's enrolment ends.
use Rattle.std.proofs.Common.{◌≡◌, ℕ, List, Some, None, ap, ◌∙◌}
use Rattle.enrol_states.specs.Commands.{enrolment_ended}
use Rattle.enrol_states.specs.declared.state.State.{State}
use Rattle.pref_bindings.specs.Preferences.{holder_of}
use Rattle.state_codec.specs.declared.recipe_lists.RecipeLists.{RecipeLists}
use Rattle.client_state.specs.Changes.{of_enrolment}
use Rattle.client_state.specs.Following.{followed, join_values}
use Rattle.client_state.specs.Sound.{IsConsistent}
use Rattle.client_state.specs.declared.client_state.ClientState.{ClientState}
use Rattle.client_state.specs.declared.state_change.StateChange.{StateChange}
use Rattle.client_state.proofs.HoldersAfter.{holders_after}
use Rattle.client_steps.specs.declared.session.Session.{Session}
use Rattle.client_steps.proofs.FollowedPreferences.{released_free}

module _ (s : ClientState) (c : IsConsistent s) (session : Session) (name holder : List ℕ) (held : holder_of name s.preferences ≡ Some holder) (e : State) (ended : e ≡ enrolment_ended holder s.enrolment) (lists : RecipeLists) (change : StateChange) (is : change ≡ of_enrolment e lists) where
  pub free_after : (t : ClientState) → t ≡ followed session.manifest session.bindings change s → holder_of name t.preferences ≡ None
  free_after t follows =
      let next = enrolment_ended holder s.enrolment in
      let ending : change ≡ of_enrolment next lists = is ∙ ap (λ (x : State). of_enrolment x lists) ended in
      ap (λ (u : ClientState). holder_of name u.preferences) (follows ∙ ap (λ (d : StateChange). followed session.manifest session.bindings d s) ending)
      ∙ released_free session s.enrolment s.preferences holder name c.preferences held (holders_after s.enrolment next (join_values session.manifest session.bindings next) s.preferences c.holders)
