-- Which manifests are written in a run.
use Rattle.std.specs.Prelude.{◌≡◌, ℕ, List, [], ◌∷◌, ◌++◌, Some, Ok, codes, slice_get}
use Rattle.fml_types.specs.declared.manifest.Manifest.{Manifest}
use Rattle.client_state.specs.declared.client_state.ClientState.{ClientState}
use Rattle.client_words.specs.Commands.{command_of}
use Rattle.client_words.specs.declared.command.Command.TheVariants.{WriteManifest}
use Rattle.client_steps.specs.Settings.{Setting}
use Rattle.client_steps.specs.WrittenManifests.{MakesAgain}
use Rattle.session_run.specs.Starts.{Start}
use Rattle.session_run.specs.Steps.{answer, run_at}
use Rattle.session_run.specs.Values.{IsSetLast}

-- what is said of a manifest whose single file has this text
abbrev pub manifest_line : List ℕ → List ℕ
manifest_line text = codes "manifest " ++ text ++ 10 ∷ []

-- of the first k lines, the last `manifest` that is answered `ok` sets a manifest that a file with the text makes again
pub record IsWrittenManifest (at : Setting) (s : ClientState) (lines : List (List ℕ)) (k : ℕ) (text : List ℕ) : Type 0 where
  pub manifest : Manifest
  pub set : IsSetLast at s lines k manifest
  pub again : MakesAgain text manifest

-- so it is with each text that a `write-manifest` is answered
abbrev pub WritesManifests : Start → Type 0
WritesManifests start =
    (k : ℕ) (line text : List ℕ) → slice_get start.lines k ≡ Some line → command_of line ≡ Ok WriteManifest
    → answer start.at (run_at start.at start.state start.lines k) line ≡ manifest_line text → IsWrittenManifest start.at start.state start.lines k text
