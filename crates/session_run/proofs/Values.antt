-- A line that is answered a value asks for a feature, and the value is the one that is served.
use Rattle.std.proofs.Common.{◌≡◌, ℕ, ◌<◌, ◌≤◌, List, refl, sym, ◌∙◌, ap, arith, Result, Ok, Err}
use Rattle.enrol_states.specs.Statuses.{last_moment}
use Rattle.client_state.specs.Sound.{IsSound}
use Rattle.client_words.specs.declared.answer.Answer.TheVariants.{Value}
use Rattle.client_words.specs.declared.command.Command.{Command}
use Rattle.client_steps.specs.Settings.{Setting}
use Rattle.client_steps.specs.Steps.{step}
use Rattle.client_steps.proofs.ServedValues.{values_have_types}
use Rattle.client_words.specs.declared.line.LineFault.{LineFault}
use Rattle.client_words.specs.declared.line.LineFault.TheVariants.{Blank, OutOfMemory}
use Rattle.client_words.specs.Commands.{command_of}
use Rattle.session_run.specs.Runs.{ServesValues}
use Rattle.session_run.specs.Starts.{Start}
use Rattle.session_run.specs.Steps.{RunState, reply, answer, run_at}
use Rattle.session_run.specs.Values.{value_line, IsTypedLine}
use Rattle.session_run.proofs.Manifests.{set_last}
use Rattle.session_run.proofs.Placing.{at_within}
use Rattle.session_run.proofs.SoundRuns.{IsSoundRun, run_sound}
use Rattle.session_run.proofs.TreeAnswers.{IsTree, first, value_in}

-- no other line is answered by `v`
apart : {P : Type 0} (n : ℕ) → n < 118 → n ≡ 118 → P
apart n below is = absurd (omega (arith, below, is))

-- the line has a command that is answered a value
record IsValueLine (at : Setting) (run : RunState) (read : Result Command LineFault) (text : List ℕ) : Type 0 where
  command : Command
  is_command : read ≡ Ok command
  value : IsTree Value (step at run.state run.session command).answer text

value_of_line : (at : Setting) (run : RunState) (read : Result Command LineFault) (text : List ℕ) → reply at run read ≡ value_line text → IsValueLine at run read text
value_of_line at run (Ok command) text is = record { command = command; is_command = refl; value = value_in (step at run.state run.session command).answer text is }
value_of_line at run (Err Blank) text is = apart 0 (omega arith) (ap first is)
value_of_line at run (Err OutOfMemory) text is = apart 0 (omega arith) (ap first is)
value_of_line at run (Err fault) text is = apart 114 (omega arith) (ap first is)

-- ---- one line

-- from a sound state and a lawful session, a line that is answered a value has its types
pub typed_line : (at : Setting) (run : RunState) (line : List ℕ) → IsSoundRun run → IsTypedLine at run line
unfolding answer
typed_line at run line sound text is =
    let said = value_of_line at run (command_of line) text is in
    let tree = said.value.tree in
    let found = values_have_types at run.state run.session said.command tree sound.state sound.session said.value.is in
    record { name = found.0; command = said.is_command ∙ ap Ok found.1; tree = tree; encoded = sym said.value.encoded; value = found.2 }

-- each value of a run is of the manifest that was set last
pub serves_values : (start : Start) → start.at.now ≤ last_moment → IsSound start.state → ServesValues start
serves_values start moment sound k line text is_line answered =
    let run = run_at start.at start.state start.lines k in
    let value = typed_line start.at run line (run_sound start.at moment start.state start.lines k sound) text answered in
    record {
      typed = value;
      set = set_last start.at start.state start.lines k (omega (arith, at_within start.lines k line is_line)) value.value.served.manifest value.value.served.set;
    }
