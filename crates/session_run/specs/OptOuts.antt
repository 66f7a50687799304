-- A slug that a user opts out of stays out, line by line, until a line brings it back.
use Rattle.std.specs.Prelude.{◌≡◌, ◌⊎◌, ◌≤◌, ◌<◌, ◌+◌, ℕ, List, Some, Ok, IsTrue, false, slice_get}
use Rattle.enrol_states.specs.Order.{is_in}
use Rattle.enrol_states.specs.State.{status_of}
use Rattle.enrol_states.specs.Statuses.{is_enrolled_now}
use Rattle.client_state.specs.declared.client_state.ClientState.{ClientState}
use Rattle.client_steps.specs.OptOuts.{BringsBack}
use Rattle.client_steps.specs.Settings.{Setting}
use Rattle.client_steps.specs.Steps.{step}
use Rattle.client_words.specs.declared.answer.Answer.TheVariants.{Okay}
use Rattle.client_words.specs.declared.command.Command.{Command}
use Rattle.client_words.specs.declared.command.Command.TheVariants.{OptOut}
use Rattle.client_words.specs.Commands.{command_of}
use Rattle.session_run.specs.Steps.{RunState, run_at}

-- the line is an `opt-out` of the slug that is answered `ok`
pub record LineOptsOut (at : Setting) (run : RunState) (slug line : List ℕ) : Type 0 where
  pub command : command_of line ≡ Ok (OptOut slug)
  pub answer : (step at run.state run.session (OptOut slug)).answer ≡ Okay

-- the line is an `opt-in` of the slug or a `reset`, and is answered `ok`
pub record LineBringsBack (at : Setting) (run : RunState) (slug line : List ℕ) : Type 0 where
  pub command : Command
  pub is_command : command_of line ≡ Ok command
  pub brings : BringsBack at run.state run.session slug command

-- the slug is out when the run begins, or by the line before the i-th, counted from 0
abbrev pub IsOutFrom : Setting → ClientState → List (List ℕ) → ℕ → List ℕ → Type 0
IsOutFrom at s lines i slug =
    ((i ≡ 0) × IsTrue (is_in s.enrolment.opted_out slug))
    ⊎ ((j : ℕ) × (i ≡ j + 1) × ((line : List ℕ) × (slice_get lines j ≡ Some line) × LineOptsOut at (run_at at s lines j) slug line))

-- it is out from some line on, and none of the first k lines after that brings it back
pub record IsHeldOut (at : Setting) (s : ClientState) (lines : List (List ℕ)) (k : ℕ) (slug : List ℕ) : Type 0 where
  pub i : ℕ
  pub within : i ≤ k
  pub out : IsOutFrom at s lines i slug
  pub none : (j : ℕ) (line : List ℕ) → i ≤ j → j < k → slice_get lines j ≡ Some line → LineBringsBack at (run_at at s lines j) slug line → ⊥

-- the slug is opted out, and the client isn't enrolled in its recipe
pub record IsOut (s : ClientState) (slug : List ℕ) : Type 0 where
  pub opted_out : IsTrue (is_in s.enrolment.opted_out slug)
  pub not_enrolled : is_enrolled_now (status_of slug s.enrolment.rows) ≡ false
