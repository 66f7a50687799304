-- From a sound state each line of a run leaves a sound state and a lawful session.
use Rattle.std.proofs.Common.{ℕ, ◌≤◌, List, [], ◌∷◌, take, Result, Ok, Err, IfOk}
use Rattle.enrol_states.specs.Statuses.{last_moment}
use Rattle.client_state.specs.declared.client_state.ClientState.{ClientState}
use Rattle.client_state.specs.Sound.{IsSound}
use Rattle.client_words.specs.declared.command.Command.{Command}
use Rattle.client_steps.specs.Settings.{Setting}
use Rattle.client_steps.specs.Soundness.{IsLawful}
use Rattle.client_words.specs.Commands.{IsCommand}
use Rattle.client_steps.proofs.Soundness.{steps_stay_sound}
use Rattle.client_words.specs.declared.line.LineFault.{LineFault}
use Rattle.client_words.specs.Commands.{command_of}
use Rattle.session_run.specs.Steps.{RunState, begun, effect, run_after, all_after, run_at}
use Rattle.client_words.proofs.Kept.{line-kept}

-- a sound state and a lawful session
pub record IsSoundRun (run : RunState) : Type 0 where
  pub state : IsSound run.state
  pub session : IsLawful run.session

module _ (at : Setting) (moment : at.now ≤ last_moment) where
  read_sound : (run : RunState) (read : Result Command LineFault) → IfOk read IsCommand → IsSoundRun run → IsSoundRun (effect at run read)
  read_sound run (Ok command) kept sound =
      let next = steps_stay_sound.one at run.state run.session command moment kept sound.session sound.state in
      record { state = next.0; session = next.1 }
  read_sound run (Err fault) kept sound = sound

  line_sound : (run : RunState) (line : List ℕ) → IsSoundRun run → IsSoundRun (run_after at run line)
  unfolding run_after
  line_sound run line sound = read_sound run (command_of line) (line-kept line) sound

  lines_sound : (run : RunState) (lines : List (List ℕ)) → IsSoundRun run → IsSoundRun (all_after at run lines)
  lines_sound run [] sound = sound
  lines_sound run (line ∷ lines) sound = lines_sound (run_after at run line) lines (line_sound run line sound)

  pub run_sound : (s : ClientState) (lines : List (List ℕ)) (k : ℕ) → IsSound s → IsSoundRun (run_at at s lines k)
  run_sound s lines k sound = lines_sound (begun s) (take k lines) (record { state = sound; session = steps_stay_sound.begun })
