-- What `write-manifest` is answered in a run makes the manifest again that was set last.
use Rattle.std.proofs.Common.{◌≡◌, ℕ, List, [], ◌∷◌, take, sym, ◌∙◌, ap, subst, arith, Result, Ok, Err}
use Rattle.client_words.specs.declared.command.Command.{Command}
use Rattle.client_words.specs.declared.command.Command.TheVariants.{WriteManifest}
use Rattle.client_words.specs.declared.line.LineFault.{LineFault}
use Rattle.client_words.specs.Answers.{answer_lines}
use Rattle.client_words.specs.Commands.{command_of}
use Rattle.client_steps.specs.Settings.{Setting}
use Rattle.client_steps.specs.Soundness.{IsLawful}
use Rattle.client_steps.specs.Steps.{step}
use Rattle.client_steps.specs.WrittenManifests.{MakesAgain}
use Rattle.client_steps.proofs.Soundness.{steps_stay_sound}
use Rattle.client_steps.proofs.WrittenManifests.{made_again}
use Rattle.session_run.specs.Starts.{Start}
use Rattle.session_run.specs.Steps.{RunState, begun, effect, reply, run_after, answer, all_after, run_at}
use Rattle.session_run.specs.WrittenManifests.{manifest_line, WritesManifests}
use Rattle.session_run.proofs.Manifests.{set_last}
use Rattle.session_run.proofs.Placing.{at_within}
use Rattle.session_run.proofs.TreeAnswers.{manifest_in}

-- ---- the session of a run

module _ (at : Setting) where
  read_lawful : (run : RunState) (read : Result Command LineFault) → IsLawful run.session → IsLawful (effect at run read).session
  read_lawful run (Ok command) lawful = steps_stay_sound.session at run.state run.session command lawful
  read_lawful run (Err fault) lawful = lawful

  line_lawful : (run : RunState) (line : List ℕ) → IsLawful run.session → IsLawful (run_after at run line).session
  unfolding run_after
  line_lawful run line lawful = read_lawful run (command_of line) lawful

  lines_lawful : (run : RunState) (lines : List (List ℕ)) → IsLawful run.session → IsLawful (all_after at run lines).session
  lines_lawful run [] lawful = lawful
  lines_lawful run (line ∷ lines) lawful = lines_lawful (run_after at run line) lines (line_lawful run line lawful)

pub writes_manifests : (start : Start) → WritesManifests start
unfolding answer
writes_manifests start k line text is_line is_command answered =
    let at = start.at in
    let run = run_at at start.state start.lines k in
    let said : answer_lines (step at run.state run.session WriteManifest).answer ≡ manifest_line text = sym (ap (reply at run) is_command) ∙ answered in
    let it = manifest_in (step at run.state run.session WriteManifest).answer text said in
    let made = made_again at run.state run.session it.tree (lines_lawful at (begun start.state) (take k start.lines) steps_stay_sound.begun) it.is in
    record {
      manifest = made.manifest;
      set = set_last at start.state start.lines k (omega (arith, at_within start.lines k line is_line)) made.manifest made.set;
      again = subst (λ (t : List ℕ). MakesAgain t made.manifest) it.encoded made.again;
    }
