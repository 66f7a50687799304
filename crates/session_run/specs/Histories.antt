-- The lines that counted over a chain of runs, each with the run that it came to.
use Rattle.std.specs.Prelude.{ℕ, List, [], ◌∷◌, ◌++◌, Option, None, Some, Result, Ok, Err, take, if◌then◌else◌}
use Rattle.client_state.specs.declared.client_state.ClientState.{ClientState}
use Rattle.client_words.specs.declared.command.Command.{Command}
use Rattle.client_words.specs.declared.line.LineFault.{LineFault}
use Rattle.client_words.specs.Commands.{command_of}
use Rattle.client_steps.specs.EventSteps.{is_okay}
use Rattle.client_steps.specs.Settings.{Setting}
use Rattle.client_steps.specs.Steps.{step}
use Rattle.session_run.specs.Chains.{Link}
use Rattle.session_run.specs.Steps.{RunState, begun, run_after, after}

-- a line, with its setting and the run that it came to
pub record Turn : Type 0 where
  pub at : Setting
  pub run : RunState
  pub line : List ℕ

-- what it leaves
abbrev pub turned : Turn → RunState
turned turn = run_after turn.at turn.run turn.line

-- these lines, the first of which comes to this run
abbrev pub turns_of : Setting → RunState → List (List ℕ) → List Turn
turns_of at run [] = []
turns_of at run (line ∷ lines) = record { at = at; run = run; line = line } ∷ turns_of at (run_after at run line) lines

-- the lines that counted over these runs
abbrev pub history : ClientState → List Link → List Turn
history s [] = []
history s (link ∷ links) = turns_of link.at (begun s) (take link.k link.lines) ++ history (after link.at s link.lines link.k) links

-- ---- the command of a line

-- the command, where it is answered `ok`
abbrev pub done_in : Setting → RunState → Result Command LineFault → Option Command
done_in at run (Ok command) = if is_okay (step at run.state run.session command).answer then Some command else None
done_in at run (Err fault) = None

-- the line's, where it has one that is answered `ok`
unfoldable pub command_done : Turn → Option Command
command_done turn = done_in turn.at turn.run (command_of turn.line)
