-- What `write-manifest` says is a file that sets the same manifest.
use Rattle.std.specs.Prelude.{◌≡◌, ◌≤◌, ℕ, List, length, Option, Some, Ok}
use Rattle.json_tree.specs.Bytes.{text_of}
use Rattle.json_tree.specs.Tree.{json_of}
use Rattle.json_tree.specs.declared.tree.Tree.{Tree}
use Rattle.fml_types.specs.declared.manifest.Manifest.{Manifest}
use Rattle.client_state.specs.declared.client_state.ClientState.{ClientState}
use Rattle.client_words.specs.declared.answer.Answer.TheVariants as answers
use Rattle.client_words.specs.declared.command.Command.TheVariants.{WriteManifest}
use Rattle.client_steps.specs.declared.session.Session.{Session}
use Rattle.client_steps.specs.Fetching.{max_file}
use Rattle.client_steps.specs.Manifests.{manifest_of}
use Rattle.client_steps.specs.Settings.{Setting}
use Rattle.client_steps.specs.Soundness.{IsLawful}
use Rattle.client_steps.specs.Steps.{step}

-- for the manifest's channel, each file with this text, of at most 4,194,304 bytes, makes an equal manifest, whatever other files there are
abbrev pub MakesAgain : List ℕ → Manifest → Type 0
MakesAgain text manifest = (files : List ℕ → Option (List ℕ)) (name : List ℕ) → files name ≡ Some text → length text ≤ max_file → manifest_of files name manifest.channel ≡ Ok manifest

-- the session has a manifest, which a file with the tree's text makes again
pub record IsWritten (session : Session) (tree : Tree) : Type 0 where
  pub manifest : Manifest
  pub set : session.manifest ≡ Some manifest
  pub again : MakesAgain (text_of (json_of tree)) manifest

-- so it is with each tree that `write-manifest` is answered, in a lawful session
abbrev pub ManifestsAreMadeAgain : Type 0
ManifestsAreMadeAgain = (at : Setting) (s : ClientState) (session : Session) (tree : Tree) → IsLawful session → (step at s session WriteManifest).answer ≡ answers.Manifest tree → IsWritten session tree
