-- A step appends the changes of enrolments that it makes to the outbox, drops those that it confirms, and else leaves it.
use Rattle.std.proofs.Common.{◌≡◌, ℕ, ◌<◌, Bool, true, false, List, [], length, Option, Some, None, refl, sym, ap}
use Rattle.std.specs.Prelude.{nat_lt, nat_le, if◌then◌else◌}
use Rattle.std.proofs.lemmas.Bool.{leb-false}
use Rattle.json_tree.specs.declared.tree.Tree.{Tree}
use Rattle.change_outbox.specs.Contents.{confirmed}
use Rattle.client_state.specs.Following.{appended_changes}
use Rattle.client_state.specs.Sound.{max_size}
use Rattle.client_state.specs.Encoding.{encoding}
use Rattle.client_state.specs.declared.client_state.ClientState.{ClientState}
use Rattle.client_words.specs.declared.answer.Answer.TheVariants.{Okay}
use Rattle.client_words.specs.declared.refusal.Refusal.TheVariants.{NoSuchChange, StateTooLarge}
use Rattle.client_words.specs.declared.command.Command.{Command}
use Rattle.client_words.specs.declared.command.Command.TheVariants.{Reset, Event, Confirm, SetPreference, ClearPreference}
use Rattle.client_steps.specs.declared.session.Session.{Session}
use Rattle.client_steps.specs.EventSteps.{is_okay}
use Rattle.client_steps.specs.OutboxSteps.{confirmed_after, OutboxFollows}
use Rattle.client_steps.specs.Settings.{Setting}
use Rattle.client_steps.specs.Steps.{Outcome, Accepted, Refused, Step, whole, counting, resetting, preferring, outcome, done, step, unchanged}
use Rattle.client_steps.proofs.Outboxes.{appended_same}
use Rattle.client_steps.proofs.Outcomes.{either_step, plain_either, enrolled_either, counting_either}
use Rattle.client_steps.proofs.Stepping.{preferring_either}

module _ (at : Setting) (s : ClientState) (session : Session) where
  -- where the enrolment and the outbox stay
  stays : s.outbox ≡ appended_changes s.enrolment s.enrolment s.outbox
  stays = sym (appended_same s.enrolment s.outbox)

  -- an accepted state's outbox has the changes
  abbrev Tells : Outcome → Type 0
  Tells (Accepted t next answer) = t.outbox ≡ appended_changes s.enrolment t.enrolment s.outbox
  Tells (Refused refusal) = Unit {0}

  done-tells : (asked : Outcome) → Tells asked → (done s session asked).state.outbox ≡ appended_changes s.enrolment (done s session asked).state.enrolment s.outbox
  done-tells (Accepted t next answer) tells = either_step (λ to. to.state.outbox ≡ appended_changes s.enrolment to.state.enrolment s.outbox) (nat_lt max_size (length (encoding t))) _ _ stays tells
  done-tells (Refused refusal) tells = stays

  preferring-tells : (name : List ℕ) (value : Option Tree) → Tells (preferring s session name value)
  preferring-tells name value = preferring_either Tells s session name value tt (λ free. stays) (λ holder held fits. refl)

  -- ---- a confirmation

  module _ (number : ℕ) where
    -- the state without the changes up to the number
    abbrev without : ClientState
    without = record s { outbox = confirmed number s.outbox }

    drops_at : (large : Bool)
        → let to : Step = if large then unchanged s session (StateTooLarge (length (encoding without))) else record { state = without; session = session; answer = Okay } in
        to.state.outbox ≡ confirmed_after (Confirm number) (is_okay to.answer) (appended_changes s.enrolment to.state.enrolment s.outbox)
    drops_at true = stays
    drops_at false = ap (confirmed number) stays

    drops : (unknown : Bool) → let to : Step = done s session (if unknown then Refused (NoSuchChange s.outbox.next) else Accepted without session Okay) in
        to.state.outbox ≡ confirmed_after (Confirm number) (is_okay to.answer) (appended_changes s.enrolment to.state.enrolment s.outbox)
    drops true = stays
    drops false = drops_at (nat_lt max_size (length (encoding without)))

    known_at : (unknown : Bool) → nat_le s.outbox.next number ≡ unknown → (done s session (if unknown then Refused (NoSuchChange s.outbox.next) else Accepted without session Okay)).answer ≡ Okay → number < s.outbox.next
    known_at true e is_done = absurd cc
    known_at false e is_done = leb-false s.outbox.next number e

    known : (step at s session (Confirm number)).answer ≡ Okay → number < s.outbox.next
    unfolding step
    known is_done = known_at (nat_le s.outbox.next number) refl is_done

  follows : (command : Command)
      → (step at s session command).state.outbox ≡ confirmed_after command (is_okay (step at s session command).answer) (appended_changes s.enrolment (step at s session command).state.enrolment s.outbox)
  unfolding step
  follows (Confirm number) = drops number (nat_le s.outbox.next number)
  follows (SetPreference name value) = done-tells (preferring s session name (Some value)) (preferring-tells name (Some value))
  follows (ClearPreference name) = done-tells (preferring s session name None) (preferring-tells name None)
  follows (Reset id) = let asked = resetting s.enrolment session id in done-tells (whole s session [] asked) (enrolled_either at s session Tells (λ refusal. tt) [] asked (λ e next answer. refl))
  follows (Event name count) = done-tells (counting at.now s session name count) (counting_either at s session Tells (λ refusal. tt) name count (λ room. stays))
  follows command = done-tells (outcome at s session command) (plain_either at s session Tells (λ refusal. tt) (λ next answer. stays) (λ e next answer. refl) command tt)

pub outbox_follows : OutboxFollows
outbox_follows = record { outbox = λ at s session command. follows at s session command; known = λ at s session number is_done. known at s session number is_done }
