-- A slug that is opted out stays so, until its user brings it back.
use Rattle.std.specs.Prelude.{◌≡◌, ℕ, Bool, true, false, List, IsTrue, bytes_eq}
use Rattle.enrol_states.specs.Order.{is_in}
use Rattle.client_state.specs.declared.client_state.ClientState.{ClientState}
use Rattle.client_words.specs.declared.answer.Answer.TheVariants.{Okay}
use Rattle.client_words.specs.declared.command.Command.{Command}
use Rattle.client_words.specs.declared.command.Command.TheVariants.{OptOut, OptIn, Reset}
use Rattle.client_steps.specs.declared.session.Session.{Session}
use Rattle.client_steps.specs.Settings.{Setting}
use Rattle.client_steps.specs.Steps.{step}

-- whether the command is an opt-in of the slug, or begins anew
abbrev pub brings_back : List ℕ → Command → Bool
brings_back slug (OptIn other branch) = bytes_eq other slug
brings_back slug (Reset id) = true
brings_back slug command = false

-- the command is done, and brings the slug back
abbrev pub BringsBack : Setting → ClientState → Session → List ℕ → Command → Type 0
BringsBack at s session slug command = IsTrue (brings_back slug command) × ((step at s session command).answer ≡ Okay)

-- an opt-out that is done leaves its slug opted out, and each other command that doesn't bring a slug back leaves it so
pub record OptOutsHold : Type 0 where
  pub taken : (at : Setting) (s : ClientState) (session : Session) (slug : List ℕ) → (step at s session (OptOut slug)).answer ≡ Okay → IsTrue (is_in (step at s session (OptOut slug)).state.enrolment.opted_out slug)
  pub kept : (at : Setting) (s : ClientState) (session : Session) (slug : List ℕ) (command : Command) → IsTrue (is_in s.enrolment.opted_out slug) → (BringsBack at s session slug command → ⊥)
      → IsTrue (is_in (step at s session command).state.enrolment.opted_out slug)
