-- A client that already takes part in recipes of some kinds, and is to take part in them, stays as it is.
use Rattle.std.proofs.Common.{◌≡◌, Bool, true, false, [], List, IsTrue, refl, sym, ap, ap₂, ◌∙◌, subst}
use Rattle.std.specs.Cmp.{first_so, second_so}
use Rattle.std.specs.Prelude.{◌↔◌, ◌&&◌, if◌then◌else◌}
use Rattle.enrol_states.specs.Commands.{after_participate}
use Rattle.enrol_states.specs.declared.participation.Kinds.TheVariants.{Both, Experiments, Rollouts}
use Rattle.enrol_states.specs.declared.state.State.{State}
use Rattle.change_outbox.specs.Contents.{numbered}
use Rattle.change_outbox.specs.declared.change.Change.{Change}
use Rattle.client_state.proofs.Followed.{empty_followed, empty_spent}
use Rattle.client_state.specs.Changes.{IsChangeOf, next_of, of_enrolment}
use Rattle.client_state.specs.Following.{changes_from, followed, spends}
use Rattle.client_state.specs.Sound.{IsConsistent}
use Rattle.client_state.specs.declared.client_state.ClientState.{ClientState}
use Rattle.client_state.specs.declared.state_change.StateChange.{StateChange}
use Rattle.client_words.specs.declared.answer.Answer.TheVariants.{Okay}
use Rattle.client_words.specs.declared.refusal.Refusal.TheVariants.{ChangesSpent}
use Rattle.state_codec.specs.declared.recipe_lists.RecipeLists.TheVariants.{AsBefore}
use Rattle.client_steps.proofs.Outboxes.{no_changes_from}
use Rattle.client_steps.specs.Steps.{Accepted, Refused, enrolling}
use Rattle.client_steps.specs.declared.session.Session.{Session}

-- ---- the flags

pub both_told : (e : State) → IsTrue (e.experiments && e.rollouts) ↔ (after_participate e Both true ≡ e)
both_told e = (
  λ on. let experiments = sym (first_so e.experiments e.rollouts on) in let rollouts = sym (second_so e.experiments e.rollouts on) in (λ i. record e { experiments = experiments i; rollouts = rollouts i }),
  λ same. ap₂ (λ (x y : Bool). x && y) (sym (ap (λ (s : State). s.experiments) same)) (sym (ap (λ (s : State). s.rollouts) same)),
)

pub experiments_told : (e : State) → IsTrue e.experiments ↔ (after_participate e Experiments true ≡ e)
experiments_told e = (λ on. let experiments = sym on in (λ i. record e { experiments = experiments i }), λ same. sym (ap (λ (s : State). s.experiments) same))

pub rollouts_told : (e : State) → IsTrue e.rollouts ↔ (after_participate e Rollouts true ≡ e)
rollouts_told e = (λ on. let rollouts = sym on in (λ i. record e { rollouts = rollouts i }), λ same. sym (ap (λ (s : State). s.rollouts) same))

-- ---- the outcome

module _ (s : ClientState) (session : Session) (c : IsConsistent s) where
  -- the enrolment of before, as the next one
  abbrev again : StateChange
  again = of_enrolment s.enrolment AsBefore

  again_is : IsChangeOf s again
  again_is = record { enrolment = record { consistent = c.enrolment; recipes = record { live = refl; pending = refl } }; events = tt; outbox = tt; preferences = tt }

  none_numbered : numbered 0 (changes_from s.enrolment s.enrolment) ≡ []
  none_numbered = ap (λ (cs : List Change). numbered 0 cs) (no_changes_from s.enrolment)

  not_spent : spends again s ≡ false
  not_spent = empty_spent s again (next_of s.enrolment AsBefore) refl c again_is none_numbered

  stays : s ≡ followed session.manifest session.bindings again s
  stays = empty_followed s again (next_of s.enrolment AsBefore) refl session.manifest session.bindings none_numbered

  same_outcome : Accepted s session Okay ≡ enrolling s session (Accepted s.enrolment session Okay)
  same_outcome =
      ap (λ (t : ClientState). Accepted t session Okay) stays
      ∙ sym (ap (λ (b : Bool). if b then Refused ChangesSpent else Accepted (followed session.manifest session.bindings again s) session Okay) not_spent)

  -- what is asked for with this enrolment, which is that of before
  pub same_asked : (e : State) → e ≡ s.enrolment → Accepted s session Okay ≡ enrolling s session (Accepted e session Okay)
  same_asked e same = subst (λ (t : State). Accepted s session Okay ≡ enrolling s session (Accepted t session Okay)) (sym same) same_outcome
