-- A step keeps a state sound and a session lawful, whatever the command, the files and the moment.
use Rattle.std.specs.Prelude.{◌≡◌, ◌≤◌, ℕ, List, [], ◌∷◌, length, All, Option, None, Some, Ok, IsUtf8}
use Rattle.json_tree.specs.Json as json
use Rattle.json_tree.specs.Json.{Json}
use Rattle.app_context.specs.Contexts.{context_of}
use Rattle.app_context.specs.declared.context.Context.{Context}
use Rattle.enrol_evolver.specs.Evolution.{version_of}
use Rattle.enrol_states.specs.Consistent as states
use Rattle.enrol_states.specs.Statuses.{last_moment}
use Rattle.event_counts.specs.Sound as counts
use Rattle.change_outbox.specs.Contents as contents
use Rattle.pref_bindings.specs.Bindings.{AreBindings, bindings_of}
use Rattle.pref_bindings.specs.declared.bindings.Binding.{Binding}
use Rattle.client_state.specs.declared.client_state.ClientState.{ClientState}
use Rattle.client_state.specs.Sound.{max_size, HaveRecords, IsConsistent, IsSound}
use Rattle.client_state.specs.Encoding.{encoding}
use Rattle.fml_types.specs.declared.manifest.Manifest.{Manifest}
use Rattle.client_words.specs.declared.command.Command.{Command}
use Rattle.client_words.specs.Commands.{IsCommand}
use Rattle.client_steps.specs.declared.session.Session.{Session}
use Rattle.client_steps.specs.Manifests.{IsLinked, manifest_of}
use Rattle.client_steps.specs.Sessions.{no_session}
use Rattle.client_steps.specs.Settings.{Setting}
use Rattle.client_steps.specs.Steps.{step}

-- what the type of a context's texts keeps, of the one that an apply puts into the state
abbrev pub HasVersion : Option Context → Type 0
HasVersion None = Unit {0}
HasVersion (Some context) = IsUtf8 (version_of context)

-- what the type of a session's manifest keeps
abbrev pub HasLinked : Option Manifest → Type 0
HasLinked None = Unit {0}
HasLinked (Some manifest) = IsLinked manifest

-- what the type of a session's bindings keeps
abbrev pub HasBindings : Option (List Binding) → Type 0
HasBindings None = Unit {0}
HasBindings (Some bindings) = AreBindings bindings

-- what the types of a session's parts keep
pub record IsSession (session : Session) : Type 0 where
  pub manifest : HasLinked session.manifest
  pub context : HasVersion session.context
  pub bindings : HasBindings session.bindings

-- linking gives it for some files, their first name and a channel
pub record IsGiven (manifest : Manifest) : Type 0 where
  pub files : List ℕ → Option (List ℕ)
  pub first : List ℕ
  pub channel : List ℕ
  pub links : manifest_of files first channel ≡ Ok manifest

-- none, or a manifest that linking gives
abbrev pub IsLawfulManifest : Option Manifest → Type 0
IsLawfulManifest None = Unit {0}
IsLawfulManifest (Some manifest) = IsGiven manifest

-- none, or the context that a tree is
abbrev pub IsLawfulContext : Option Context → Type 0
IsLawfulContext None = Unit {0}
IsLawfulContext (Some context) = (tree : Json) × json.IsSound tree × (context_of tree ≡ Ok context)

-- none, or the bindings that a tree is
abbrev pub IsLawfulBindings : Option (List Binding) → Type 0
IsLawfulBindings None = Unit {0}
IsLawfulBindings (Some bindings) = (tree : Json) × json.IsSound tree × (bindings_of tree ≡ Ok bindings)

-- a session that steps can leave
pub record IsLawful (session : Session) : Type 0 where
  pub manifest : IsLawfulManifest session.manifest
  pub context : IsLawfulContext session.context
  pub bindings : IsLawfulBindings session.bindings

-- ---- many commands

-- a command, with the files and the moment at which it comes
abbrev pub Line : Type 0
Line = Setting × Command

-- it comes at a moment up to the last, and its parts are what their types keep
abbrev pub IsLine : Line → Type 0
IsLine line = (line.0.now ≤ last_moment) × IsCommand line.1

-- the state and the session that these commands leave
abbrev pub all_after : ClientState × Session → List Line → ClientState × Session
all_after run [] = run
all_after run (line ∷ lines) = let to = step line.0 run.0 run.1 line.1 in all_after (to.state, to.session) lines

-- the parts of a state that follow nothing of what recipes hold
pub record HasConsistentParts (s : ClientState) : Type 0 where
  pub enrolment : states.IsConsistent s.enrolment
  pub events : counts.IsSound s.events
  pub outbox : contents.IsSound s.outbox

-- a step from a sound state and a lawful session gives such a state and such a session, and so do many; each part keeps itself, where the others may not hold, but that preferences are set by the records of recipes
pub record StepsStaySound : Type 0 where
  pub one : (at : Setting) (s : ClientState) (session : Session) (command : Command) → at.now ≤ last_moment → IsCommand command → IsLawful session → IsSound s → IsSound (step at s session command).state × IsLawful (step at s session command).session
  pub all : (s : ClientState) (session : Session) (lines : List Line) → All IsLine lines → IsLawful session → IsSound s → IsSound (all_after (s, session) lines).0 × IsLawful (all_after (s, session) lines).1
  pub session : (at : Setting) (s : ClientState) (session : Session) (command : Command) → IsLawful session → IsLawful (step at s session command).session
  pub begun : IsLawful no_session
  pub consistent : (at : Setting) (s : ClientState) (session : Session) (command : Command) → at.now ≤ last_moment → IsCommand command → IsSession session → HaveRecords s.enrolment → IsConsistent s → IsConsistent (step at s session command).state
  pub records : (at : Setting) (s : ClientState) (session : Session) (command : Command) → HaveRecords s.enrolment → HaveRecords (step at s session command).state.enrolment
  pub parts : (at : Setting) (s : ClientState) (session : Session) (command : Command) → at.now ≤ last_moment → IsCommand command → IsSession session → HasConsistentParts s → HasConsistentParts (step at s session command).state
  pub texts : (at : Setting) (s : ClientState) (session : Session) (command : Command) → IsSession session → IsSession (step at s session command).session
  pub size : (at : Setting) (s : ClientState) (session : Session) (command : Command) → length (encoding s) ≤ max_size → length (encoding (step at s session command).state) ≤ max_size
