-- What a step makes of the outbox of changes of enrolments.
use Rattle.std.specs.Prelude.{◌≡◌, ◌<◌, ℕ, Bool, true}
use Rattle.change_outbox.specs.Contents.{Contents, confirmed}
use Rattle.client_state.specs.Following.{appended_changes}
use Rattle.client_state.specs.declared.client_state.ClientState.{ClientState}
use Rattle.client_words.specs.declared.answer.Answer.TheVariants.{Okay}
use Rattle.client_words.specs.declared.command.Command.{Command}
use Rattle.client_words.specs.declared.command.Command.TheVariants.{Confirm}
use Rattle.client_steps.specs.declared.session.Session.{Session}
use Rattle.client_steps.specs.EventSteps.{is_okay}
use Rattle.client_steps.specs.Settings.{Setting}
use Rattle.client_steps.specs.Steps.{step}

-- the outbox after a command that is done or not: a confirmation that is done drops the changes up to its number
abbrev pub confirmed_after : Command → Bool → Contents → Contents
confirmed_after (Confirm number) true o = confirmed number o
confirmed_after command is_done o = o

-- The outbox that each step leaves has the changes of enrolments from the state before to the state after it, under the next numbers, and drops those that the step confirms. A confirmation is done only where a change had its number.
pub record OutboxFollows : Type 0 where
  pub outbox : (at : Setting) (s : ClientState) (session : Session) (command : Command)
      → (step at s session command).state.outbox ≡ confirmed_after command (is_okay (step at s session command).answer) (appended_changes s.enrolment (step at s session command).state.enrolment s.outbox)
  pub known : (at : Setting) (s : ClientState) (session : Session) (number : ℕ) → (step at s session (Confirm number)).answer ≡ Okay → number < s.outbox.next
