-- Which values are answered in a run, and with which types.
use Rattle.std.specs.Prelude.{◌≡◌, ◌<◌, ℕ, List, [], ◌∷◌, ◌++◌, Some, Ok, codes, slice_get}
use Rattle.json_tree.specs.Bytes.{text_of}
use Rattle.json_tree.specs.Tree.{json_of}
use Rattle.json_tree.specs.declared.tree.Tree.{Tree}
use Rattle.fml_types.specs.declared.manifest.Manifest.{Manifest}
use Rattle.client_state.specs.declared.client_state.ClientState.{ClientState}
use Rattle.client_words.specs.declared.answer.Answer.TheVariants.{Okay}
use Rattle.client_words.specs.declared.command.Command.TheVariants.{Feature}
use Rattle.client_words.specs.declared.command.Command.TheVariants as commands
use Rattle.client_steps.specs.Manifests.{manifest_of}
use Rattle.client_steps.specs.ServedValues.{IsServedWithType}
use Rattle.client_steps.specs.Settings.{Setting}
use Rattle.client_steps.specs.Steps.{step}
use Rattle.client_words.specs.Commands.{command_of}
use Rattle.session_run.specs.Steps.{RunState, answer, run_at}

-- what is said of a value that has this text
abbrev pub value_line : List ℕ → List ℕ
value_line text = codes "value " ++ text ++ 10 ∷ []

-- the line asks for a feature, and the text is that of the value which the session's manifest serves of it, which has the types of the
-- feature's variables
pub record IsTypedValue (run : RunState) (line text : List ℕ) : Type 0 where
  pub name : List ℕ
  pub command : command_of line ≡ Ok (Feature name)
  pub tree : Tree
  pub encoded : text ≡ text_of (json_of tree)
  pub value : IsServedWithType run.state run.session name tree

-- where the line is answered a value, it is such a one
abbrev pub IsTypedLine : Setting → RunState → List ℕ → Type 0
IsTypedLine at run line = (text : List ℕ) → answer at run line ≡ value_line text → IsTypedValue run line text

-- ---- the manifest

-- the line is a `manifest` that is answered `ok`, and its files make this manifest for its channel
pub record LineSets (at : Setting) (run : RunState) (line : List ℕ) (m : Manifest) : Type 0 where
  pub file : List ℕ
  pub channel : List ℕ
  pub command : command_of line ≡ Ok (commands.Manifest file channel)
  pub done : (step at run.state run.session (commands.Manifest file channel)).answer ≡ Okay
  pub manifest : manifest_of at.files file channel ≡ Ok m

-- of the first k lines, the last `manifest` that is answered `ok` sets this manifest
pub record IsSetLast (at : Setting) (s : ClientState) (lines : List (List ℕ)) (k : ℕ) (m : Manifest) : Type 0 where
  pub j : ℕ
  pub before : j < k
  pub line : List ℕ
  pub is_line : slice_get lines j ≡ Some line
  pub sets : LineSets at (run_at at s lines j) line m
  pub last : (i : ℕ) (other : List ℕ) (that : Manifest) → j < i → i < k → slice_get lines i ≡ Some other
      → LineSets at (run_at at s lines i) other that → ⊥

-- this line, behind k others, is answered a value of its type, which the manifest serves that was set last
pub record IsServedValue (at : Setting) (s : ClientState) (lines : List (List ℕ)) (k : ℕ) (line text : List ℕ) : Type 0 where
  pub typed : IsTypedValue (run_at at s lines k) line text
  pub set : IsSetLast at s lines k typed.value.served.manifest
