-- One line of a script: what it makes of a run, and what is said to it. And many lines. A line is its bytes.
use Rattle.std.specs.Prelude.{ℕ, List, [], ◌∷◌, ◌++◌, Result, Ok, Err, take}
use Rattle.client_state.specs.declared.client_state.ClientState.{ClientState}
use Rattle.client_core.specs.declared.client.Client.{Client}
use Rattle.client_words.specs.declared.command.Command.{Command}
use Rattle.client_steps.specs.declared.session.Session.{Session}
use Rattle.client_steps.specs.Settings.{Setting}
use Rattle.client_steps.specs.Sessions.{no_session}
use Rattle.client_steps.specs.Steps.{Step, step}
use Rattle.client_words.specs.declared.line.LineFault.{LineFault}
use Rattle.client_words.specs.Commands.{command_of}
use Rattle.client_words.specs.Answers.{answer_lines, fault_answer}

-- a run between two lines: the client's state, and the session
pub record RunState : Type 0 where
  pub state : ClientState
  pub session : Session

-- a run begins with an empty session
abbrev pub begun : ClientState → RunState
begun s = record { state = s; session = no_session }

abbrev pub run_of : Client → RunState
run_of client = record { state = client.store.state; session = client.session }

abbrev pub left_by : Step → RunState
left_by step = record { state = step.state; session = step.session }

-- what a line leaves, once it was read. A fault changes nothing
abbrev pub effect : Setting → RunState → Result Command LineFault → RunState
effect at run (Ok command) = left_by (step at run.state run.session command)
effect at run (Err fault) = run

abbrev pub reply : Setting → RunState → Result Command LineFault → List ℕ
reply at run (Ok command) = answer_lines (step at run.state run.session command).answer
reply at run (Err fault) = fault_answer fault

-- what a line leaves
unfoldable pub run_after : Setting → RunState → List ℕ → RunState
run_after at run line = effect at run (command_of line)

-- what is said to it
unfoldable pub answer : Setting → RunState → List ℕ → List ℕ
answer at run line = reply at run (command_of line)

-- what these lines leave
abbrev pub all_after : Setting → RunState → List (List ℕ) → RunState
all_after at run [] = run
all_after at run (line ∷ lines) = all_after at (run_after at run line) lines

-- their answers, joined
abbrev pub all_answers : Setting → RunState → List (List ℕ) → List ℕ
all_answers at run [] = []
all_answers at run (line ∷ lines) = answer at run line ++ all_answers at (run_after at run line) lines

-- a run from s, after the first k lines
abbrev pub run_at : Setting → ClientState → List (List ℕ) → ℕ → RunState
run_at at s lines k = all_after at (begun s) (take k lines)

-- the state after the first k lines
abbrev pub after : Setting → ClientState → List (List ℕ) → ℕ → ClientState
after at s lines k = (run_at at s lines k).state

-- the joined answers to them
abbrev pub out : Setting → ClientState → List (List ℕ) → ℕ → List ℕ
out at s lines k = all_answers at (begun s) (take k lines)
