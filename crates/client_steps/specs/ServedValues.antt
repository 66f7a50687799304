-- Which values are answered, and with which type.
use Rattle.std.specs.Prelude.{◌≡◌, ℕ, List, Some}
use Rattle.json_tree.specs.Tree.{json_of}
use Rattle.json_tree.specs.declared.tree.Tree.{Tree}
use Rattle.fml_types.specs.declared.manifest.Manifest.{Manifest}
use Rattle.fml_value.specs.Trees.{tree_of}
use Rattle.fml_value.specs.Typed.{TypedValue}
use Rattle.feature_serving.specs.Serving.{served, HasFeatureType}
use Rattle.client_state.specs.declared.client_state.ClientState.{ClientState}
use Rattle.client_state.specs.Sound.{IsSound}
use Rattle.client_words.specs.declared.answer.Answer.{Answer}
use Rattle.client_words.specs.declared.answer.Answer.TheVariants.{Value}
use Rattle.client_words.specs.declared.command.Command.{Command}
use Rattle.client_words.specs.declared.command.Command.TheVariants.{Feature}
use Rattle.client_steps.specs.declared.session.Session.{Session}
use Rattle.client_steps.specs.Settings.{Setting}
use Rattle.client_steps.specs.Soundness.{IsLawful}
use Rattle.client_steps.specs.Steps.{step}

-- the tree is that of the value which the session's manifest serves of the feature
pub record IsServed (s : ClientState) (session : Session) (name : List ℕ) (tree : Tree) : Type 0 where
  pub manifest : Manifest
  pub set : session.manifest ≡ Some manifest
  pub value : TypedValue
  pub serves : served manifest s.enrolment name ≡ Some value
  pub encoded : json_of tree ≡ tree_of value

-- a step is answered a value only where it asks for a feature, and that is the served one
abbrev pub ValuesAreServed : Type 0
ValuesAreServed = (at : Setting) (s : ClientState) (session : Session) (command : Command) (tree : Tree) → (step at s session command).answer ≡ Value tree → (name : List ℕ) × (command ≡ Feature name) × IsServed s session name tree

-- and the value has the type of the manifest's feature
pub record IsServedWithType (s : ClientState) (session : Session) (name : List ℕ) (tree : Tree) : Type 0 where
  pub served : IsServed s session name tree
  pub typed : HasFeatureType served.manifest name served.value

-- where a feature is answered a value, that has its type
abbrev pub IsTyped : ClientState → Session → Command → Answer → Type 0
IsTyped s session (Feature name) (Value tree) = IsServedWithType s session name tree
IsTyped s session command answer = Unit {0}

-- each value that a step is answered has its type, from a sound state and a lawful session
abbrev pub ValuesHaveTypes : Type 0
ValuesHaveTypes = (at : Setting) (s : ClientState) (session : Session) (command : Command) (tree : Tree) → IsSound s → IsLawful session → (step at s session command).answer ≡ Value tree
    → (name : List ℕ) × (command ≡ Feature name) × IsServedWithType s session name tree
