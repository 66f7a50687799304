-- A step keeps a session lawful, and its texts in UTF-8.
use Rattle.std.proofs.Common.{◌≡◌, ℕ, List, [], length, Option, Some, None, Result, Ok, Err, IsUtf8, refl, subst}
use Rattle.std.specs.Prelude.{IfOk, nat_lt}
use Rattle.json_tree.specs.Json as json
use Rattle.json_tree.specs.Json.{Json, IsSound}
use Rattle.json_tree.specs.declared.tree.Tree.{Tree}
use Rattle.app_context.specs.Contexts.{context_of}
use Rattle.app_context.specs.declared.context.Context.{Context}
use Rattle.app_context.specs.declared.key.ContextKey.{ContextKey}
use Rattle.pref_bindings.specs.Bindings.{AreBindings, bindings_of}
use Rattle.pref_bindings.specs.declared.bindings.Binding.{Binding}
use Rattle.pref_bindings.proofs.BindingsRead.{read_are}
use Rattle.enrol_evolver.specs.Evolution.{version_of}
use Rattle.event_counts.specs.declared.name_counts.NameCounts.{NameCounts}
use Rattle.client_state.specs.declared.client_state.ClientState.{ClientState}
use Rattle.client_state.specs.Sound.{max_size}
use Rattle.client_state.specs.Encoding.{encoding}
use Rattle.fml_types.specs.declared.manifest.Manifest.{Manifest}
use Rattle.client_words.specs.declared.refusal.Refusal.{Refusal}
use Rattle.client_words.specs.declared.command.Command.{Command}
use Rattle.client_words.specs.declared.command.Command.TheVariants.{Fetch, Apply, Participate, OptOut, OptIn, Reset, Show, Feature, Event, Confirm, Bind, SetPreference, ClearPreference, WriteManifest}
use Rattle.client_words.specs.declared.command.Command.TheVariants as commands
use Rattle.client_steps.specs.declared.session.Session.{Session}
use Rattle.client_steps.specs.Fetching.{file_tree}
use Rattle.client_steps.specs.Manifests.{manifest_of}
use Rattle.client_steps.specs.Sessions.{with_manifest, with_context, with_bindings}
use Rattle.client_steps.specs.Settings.{Setting}
use Rattle.client_steps.specs.Soundness.{HasVersion, HasLinked, HasBindings, IsSession, IsLawfulManifest, IsLawfulContext, IsLawfulBindings, IsLawful}
use Rattle.client_steps.specs.Steps.{OutcomeOver, EnrolmentOutcome, Outcome, Accepted, Refused, whole, seeing, preferring, participation, resetting, opting_out, opting_in, fetching, context_read, reading_context, bindings_read, reading_bindings, setting_manifest, applying, outcome, done, step}
use Rattle.client_steps.proofs.LinkedManifests.{manifest_linked}
use Rattle.client_steps.proofs.ReadContexts.{context_version}
use Rattle.client_steps.proofs.ReadFiles.{file_sound}
use Rattle.client_steps.proofs.EnrolmentOutcomes.{fetching_either, applying_either, opting_out_either, opting_in_either}
use Rattle.client_steps.proofs.Outcomes.{either_step, of_feature, of_written, counting_either, confirming_either}
use Rattle.client_steps.proofs.Stepping.{whole_either, preferring_either}

-- what each session keeps that has the context or the bindings of a sound tree, where it has others than before
module _ (P : Session → Type 0) (at : Setting) (s : ClientState) (session : Session) (was : P session) (takes : (tree : Json) (context : Context) → IsSound tree → context_of tree ≡ Ok context → P (with_context session context)) (binds : (tree : Json) (bindings : List Binding) → IsSound tree → bindings_of tree ≡ Ok bindings → P (with_bindings session bindings)) where
  abbrev Carries : {S : Type 0} → OutcomeOver S → Type 0
  Carries (Accepted t next answer) = P next
  Carries (Refused refusal) = Unit {0}

  whole-carries : (counts : List NameCounts) (asked : EnrolmentOutcome) → Carries asked → Carries (whole s session counts asked)
  whole-carries counts (Accepted e next answer) carries = whole_either (λ (asked : Outcome). Carries asked) s session counts e next answer tt (λ fits. carries)
  whole-carries counts (Refused refusal) carries = tt

  done-carries : (asked : Outcome) → Carries asked → P (done s session asked).session
  done-carries (Accepted t next answer) carries = either_step (λ to. P to.session) (nat_lt max_size (length (encoding t))) _ _ was carries
  done-carries (Refused refusal) carries = was

  context-carries : (tree : Json) (read : Result Context ContextKey) → IsSound tree → context_of tree ≡ read → Carries (context_read s session read)
  context-carries tree (Ok context) sound is = takes tree context sound is
  context-carries tree (Err key) sound is = tt

  file-carries : (read : Result Json Refusal) → IfOk read IsSound → Carries (reading_context s session read)
  file-carries (Ok tree) sound = context-carries tree (context_of tree) sound refl
  file-carries (Err refusal) sound = tt

  bindings-carries : (tree : Json) (read : Result (List Binding) (List ℕ)) → IsSound tree → bindings_of tree ≡ read → Carries (bindings_read s session read)
  bindings-carries tree (Ok bindings) sound is = binds tree bindings sound is
  bindings-carries tree (Err feature) sound is = tt

  bind-carries : (read : Result Json Refusal) → IfOk read IsSound → Carries (reading_bindings s session read)
  bind-carries (Ok tree) sound = bindings-carries tree (bindings_of tree) sound refl
  bind-carries (Err refusal) sound = tt

  preferring-carries : (name : List ℕ) (value : Option Tree) → Carries (preferring s session name value)
  preferring-carries name value = preferring_either (λ (asked : Outcome). Carries asked) s session name value tt (λ free. was) (λ holder held fits. was)

  -- the session keeps it with the manifest of `manifest` as well
  abbrev Links : Command → Type 0
  Links command = (file channel : List ℕ) (manifest : Manifest) → command ≡ commands.Manifest file channel → manifest_of at.files file channel ≡ Ok manifest → P (with_manifest session manifest)

  manifest-carries : (file channel : List ℕ) (read : Result Manifest Refusal) → Links (commands.Manifest file channel) → manifest_of at.files file channel ≡ read → Carries (setting_manifest s session read)
  manifest-carries file channel (Ok manifest) links is = links file channel manifest refl is
  manifest-carries file channel (Err refusal) links is = tt

  outcome-carries : (command : Command) → Links command → Carries (outcome at s session command)
  outcome-carries (commands.Manifest file channel) links = manifest-carries file channel (manifest_of at.files file channel) links refl
  outcome-carries (commands.Context file) links = file-carries (file_tree file (at.files file)) (file_sound file (at.files file))
  outcome-carries (Fetch file) links = whole-carries s.events (fetching s.enrolment session (file_tree file (at.files file))) (fetching_either s.enrolment session (λ (asked : EnrolmentOutcome). Carries asked) (λ refusal. tt) (file_tree file (at.files file)) (λ tree found is loads. was))
  outcome-carries Apply links = whole-carries s.events (applying at.now s.enrolment session session.manifest (seeing at.now s.events session.context)) (applying_either s.enrolment session (λ (asked : EnrolmentOutcome). Carries asked) (λ refusal. tt) at.now session.manifest (seeing at.now s.events session.context) (λ m c. was))
  outcome-carries (Participate kinds on) links = whole-carries s.events (participation s.enrolment session kinds on) was
  outcome-carries (OptOut slug) links = whole-carries s.events (opting_out s.enrolment session slug) (opting_out_either s.enrolment session (λ (asked : EnrolmentOutcome). Carries asked) (λ refusal. tt) slug was)
  outcome-carries (OptIn slug branch) links = whole-carries s.events (opting_in s.enrolment session slug branch) (opting_in_either s.enrolment session (λ (asked : EnrolmentOutcome). Carries asked) (λ refusal. tt) slug branch was)
  outcome-carries (Reset id) links = whole-carries [] (resetting s.enrolment session id) was
  outcome-carries Show links = was
  outcome-carries (Feature name) links = of_feature at s session (λ (asked : Outcome). Carries asked) (λ refusal. tt) (λ answer. was) name session.manifest
  outcome-carries (Event name count) links = counting_either at s session (λ (asked : Outcome). Carries asked) (λ refusal. tt) name count (λ room. was)
  outcome-carries commands.Changes links = was
  outcome-carries (Confirm number) links = confirming_either at s session (λ (asked : Outcome). Carries asked) (λ refusal. tt) number (λ known. was)
  outcome-carries (Bind file) links = bind-carries (file_tree file (at.files file)) (file_sound file (at.files file))
  outcome-carries (SetPreference name value) links = preferring-carries name (Some value)
  outcome-carries (ClearPreference name) links = preferring-carries name None
  outcome-carries commands.Preferences links = was
  outcome-carries WriteManifest links = of_written at s session (λ (asked : Outcome). Carries asked) (λ refusal. tt) (λ manifest. was) session.manifest

  pub step-carries : (command : Command) → Links command → P (step at s session command).session
  unfolding step
  step-carries command links = done-carries (outcome at s session command) (outcome-carries command links)

version_of_tree : (tree : Json) (context : Context) → IsSound tree → context_of tree ≡ Ok context → IsUtf8 (version_of context)
version_of_tree tree context sound is = subst (λ (read : Result Context ContextKey). IfOk read (λ c. IsUtf8 (version_of c))) is (context_version tree sound)

-- the bindings that a tree is
bindings_are : (tree : Json) (bindings : List Binding) → bindings_of tree ≡ Ok bindings → AreBindings bindings
unfolding bindings_of
bindings_are (json.object ms) bindings is = read_are bindings ms is
bindings_are tree bindings is = absurd cc

pub step_keeps_texts : (at : Setting) (s : ClientState) (session : Session) (command : Command) → IsSession session → IsSession (step at s session command).session
step_keeps_texts at s session command was =
    step-carries IsSession at s session was
    (λ tree context sound is. record { manifest = was.manifest; context = version_of_tree tree context sound is; bindings = was.bindings })
    (λ tree bindings sound is. record { manifest = was.manifest; context = was.context; bindings = bindings_are tree bindings is })
    command (λ file channel manifest asks is. record { manifest = manifest_linked at.files file channel manifest is; context = was.context; bindings = was.bindings })

pub step_keeps_lawful : (at : Setting) (s : ClientState) (session : Session) (command : Command) → IsLawful session → IsLawful (step at s session command).session
step_keeps_lawful at s session command was =
    step-carries IsLawful at s session was
    (λ tree context sound is. record { manifest = was.manifest; context = (tree, sound, is); bindings = was.bindings })
    (λ tree bindings sound is. record { manifest = was.manifest; context = was.context; bindings = (tree, sound, is) })
    command (λ file channel manifest asks is. record { manifest = record { files = at.files; first = file; channel = channel; links = is }; context = was.context; bindings = was.bindings })

has_linked : (manifest : Option Manifest) → IsLawfulManifest manifest → HasLinked manifest
has_linked None lawful = tt
has_linked (Some manifest) lawful = manifest_linked lawful.files lawful.first lawful.channel manifest lawful.links

has_version : (context : Option Context) → IsLawfulContext context → HasVersion context
has_version None lawful = tt
has_version (Some context) lawful = version_of_tree lawful.0 context lawful.1 lawful.2

has_bindings : (bindings : Option (List Binding)) → IsLawfulBindings bindings → HasBindings bindings
has_bindings None lawful = tt
has_bindings (Some bindings) lawful = bindings_are lawful.0 bindings lawful.2

-- what the types of a session's parts keep holds of a lawful one
pub lawful_texts : (session : Session) → IsLawful session → IsSession session
lawful_texts session lawful = record { manifest = has_linked session.manifest lawful.manifest; context = has_version session.context lawful.context; bindings = has_bindings session.bindings lawful.bindings }
