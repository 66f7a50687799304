-- What a confirmation asks for.
use Rattle.std.proofs.Common.{◌≡◌, ℕ, ◌<◌, ◌≤◌, Bool, None, refl, sym, ap, ◌∙◌, subst}
use Rattle.std.specs.Prelude.{if◌then◌else◌}
use Rattle.std.proofs.lemmas.Bool.{le-leb, lt-leb}
use Rattle.change_outbox.specs.Contents.{Contents, IsSound, confirmed}
use Rattle.change_outbox.proofs.Made.{confirmed_made}
use Rattle.client_state.specs.Changes.{IsChangeOf, of_outbox}
use Rattle.client_state.specs.declared.client_state.ClientState.{ClientState}
use Rattle.client_state.specs.declared.state_change.StateChange.{StateChange}
use Rattle.client_words.specs.declared.answer.Answer.TheVariants.{Okay}
use Rattle.client_words.specs.declared.refusal.Refusal.TheVariants.{NoSuchChange}
use Rattle.client_steps.specs.declared.session.Session.{Session}
use Rattle.client_steps.specs.Asked.{changed_outcome}
use Rattle.client_steps.specs.Steps.{Outcome, Accepted, Refused, confirming}

-- the change is one of the state
pub confirms_part : (s : ClientState) (number : ℕ) (next : Contents) (change : StateChange) → IsSound next → next ≡ confirmed number s.outbox → change ≡ of_outbox next → IsChangeOf s change × (change.preferences ≡ None)
confirms_part s number next change sound is change_is =
    subst (λ (x : StateChange). IsChangeOf s x × (x.preferences ≡ None)) (sym change_is)
    (record { enrolment = tt; events = tt; outbox = record { sound = sound; made = confirmed_made number s.outbox next is }; preferences = tt }, refl)

module _ (s : ClientState) (session : Session) (number : ℕ) where
  abbrev either : Bool → Outcome
  either unknown = if unknown then Refused (NoSuchChange s.outbox.next) else Accepted (record s { outbox = confirmed number s.outbox }) session Okay

  confirms : number < s.outbox.next → changed_outcome s session (of_outbox (confirmed number s.outbox)) Okay ≡ confirming s session number
  confirms below = sym (ap either (lt-leb s.outbox.next number below))

  pub confirms_as : (o next : Contents) → o ≡ s.outbox → next ≡ confirmed number o → number < o.next → changed_outcome s session (of_outbox next) Okay ≡ confirming s session number
  confirms_as o next same is below =
      ap (λ (p : Contents). changed_outcome s session (of_outbox p) Okay) (is ∙ ap (confirmed number) same) ∙ confirms (subst (λ (p : Contents). number < p.next) same below)

  pub refuses_as : (o : Contents) (next : ℕ) → o ≡ s.outbox → next ≡ o.next → o.next ≤ number → ◌≡◌ {A = Outcome} (Refused (NoSuchChange next)) (confirming s session number)
  refuses_as o next same is least =
      ap (λ n. Refused (NoSuchChange n)) (is ∙ ap (λ (p : Contents). p.next) same) ∙ sym (ap either (le-leb s.outbox.next number (subst (λ (p : Contents). p.next ≤ number) same least)))
