-- What holds of all that a command may ask for holds of what it asks for.
use Rattle.std.proofs.Common.{◌≡◌, ℕ, Bool, true, false, List, Option, Some, None, Result, Ok, Err}
use Rattle.std.specs.Prelude.{nat_le, ⊤, if◌then◌else◌}
use Rattle.json_tree.specs.Inverse.{tree_from}
use Rattle.json_tree.specs.Json.{Json}
use Rattle.app_context.specs.Contexts.{context_of}
use Rattle.app_context.specs.declared.context.Context.{Context}
use Rattle.app_context.specs.declared.key.ContextKey.{ContextKey}
use Rattle.change_outbox.specs.Contents.{confirmed}
use Rattle.pref_bindings.specs.Bindings.{bindings_of}
use Rattle.pref_bindings.specs.declared.bindings.Binding.{Binding}
use Rattle.enrol_states.specs.declared.state.State.{State}
use Rattle.event_counts.specs.Kept.{counted_in}
use Rattle.event_counts.specs.declared.name_counts.NameCounts.{NameCounts}
use Rattle.fml_imports.specs.Single.{single}
use Rattle.fml_types.specs.declared.manifest.Manifest.{Manifest}
use Rattle.fml_value.specs.Typed.{TypedValue}
use Rattle.feature_serving.specs.Serving.{served}
use Rattle.client_state.specs.declared.client_state.ClientState.{ClientState}
use Rattle.client_words.specs.declared.answer.Answer.{Answer}
use Rattle.client_words.specs.declared.answer.Answer.TheVariants.{Okay}
use Rattle.client_words.specs.declared.answer.Answer.TheVariants as answers
use Rattle.client_words.specs.declared.refusal.Refusal.{Refusal}
use Rattle.client_words.specs.declared.refusal.Refusal.TheVariants.{ChangesSpent, EventLimit, NoSuchChange}
use Rattle.client_words.specs.declared.command.Command.{Command}
use Rattle.client_words.specs.declared.command.Command.TheVariants.{Fetch, Apply, Participate, OptOut, OptIn, Show, Feature, Bind, WriteManifest}
use Rattle.client_words.specs.declared.command.Command.TheVariants as commands
use Rattle.client_steps.specs.declared.session.Session.{Session}
use Rattle.client_steps.specs.Fetching.{file_tree}
use Rattle.client_steps.specs.Manifests.{manifest_of}
use Rattle.client_steps.specs.Sessions.{with_bindings, with_context, with_manifest}
use Rattle.client_steps.specs.Settings.{Setting}
use Rattle.client_steps.specs.Steps.{EnrolmentOutcome, Outcome, Accepted, Refused, Step, with_enrolment, whole, seeing, has_no_room_for, counting, confirming, participation, opting_out, opting_in, fetching, context_read, reading_context, bindings_read, reading_bindings, setting_manifest, applying, valued, serving, writing_manifest, outcome}
use Rattle.client_steps.proofs.Stepping.{either, whole_either}

pub either_step : (P : Step → Type 0) (b : Bool) (x y : Step) → P x → P y → P (if b then x else y)
either_step P true x y here there = here
either_step P false x y here there = there

-- the command leaves the state as it is
abbrev pub LeavesState : Command → Type 0
LeavesState (commands.Manifest file channel) = ⊤
LeavesState (commands.Context file) = ⊤
LeavesState Show = ⊤
LeavesState (Feature name) = ⊤
LeavesState commands.Changes = ⊤
LeavesState (Bind file) = ⊤
LeavesState commands.Preferences = ⊤
LeavesState WriteManifest = ⊤
LeavesState command = ⊥

-- it does, or it changes the enrolment alone and what follows that
abbrev pub LeavesCounts : Command → Type 0
LeavesCounts (Fetch file) = ⊤
LeavesCounts Apply = ⊤
LeavesCounts (Participate kinds on) = ⊤
LeavesCounts (OptOut slug) = ⊤
LeavesCounts (OptIn slug branch) = ⊤
LeavesCounts command = LeavesState command

module _ (at : Setting) (s : ClientState) (session : Session) (P : Outcome → Type 0) (refused : (refusal : Refusal) → P (Refused refusal)) where
  -- ---- a file is read

  pub of_manifest : ((manifest : Manifest) → P (Accepted s (with_manifest session manifest) Okay)) → (read : Result Manifest Refusal) → P (setting_manifest s session read)
  of_manifest sets (Ok manifest) = sets manifest
  of_manifest sets (Err refusal) = refused refusal

  module _ (takes : (context : Context) → P (Accepted s (with_context session context) Okay)) where
    of_context : (read : Result Context ContextKey) → P (context_read s session read)
    of_context (Ok context) = takes context
    of_context (Err key) = refused _

    pub of_context_file : (read : Result Json Refusal) → P (reading_context s session read)
    of_context_file (Ok tree) = of_context (context_of tree)
    of_context_file (Err refusal) = refused refusal

  module _ (binds : (bindings : List Binding) → P (Accepted s (with_bindings session bindings) Okay)) where
    of_bindings : (read : Result (List Binding) (List ℕ)) → P (bindings_read s session read)
    of_bindings (Ok bindings) = binds bindings
    of_bindings (Err feature) = refused _

    pub of_bindings_file : (read : Result Json Refusal) → P (reading_bindings s session read)
    of_bindings_file (Ok tree) = of_bindings (bindings_of tree)
    of_bindings_file (Err refusal) = refused refusal

  -- ---- the manifest is asked

  module _ (gives : (answer : Answer) → P (Accepted s session answer)) where
    of_value : (found : Option TypedValue) → P (valued s session found)
    of_value None = refused _
    of_value (Some value) = gives _

    pub of_feature : (name : List ℕ) (manifest : Option Manifest) → P (serving s session name manifest)
    of_feature name None = refused _
    of_feature name (Some manifest) = of_value (served manifest s.enrolment name)

  pub of_written : ((manifest : Manifest) → P (Accepted s session (answers.Manifest (tree_from (single manifest))))) → (manifest : Option Manifest) → P (writing_manifest s session manifest)
  of_written writes None = refused _
  of_written writes (Some manifest) = writes manifest

  -- ---- the state stays

  module _ (stays : (next : Session) (answer : Answer) → P (Accepted s next answer)) where
    pub leaving_either : (command : Command) → LeavesState command → P (outcome at s session command)
    leaving_either (commands.Manifest file channel) leaves = of_manifest (λ manifest. stays _ _) (manifest_of at.files file channel)
    leaving_either (commands.Context file) leaves = of_context_file (λ context. stays _ _) (file_tree file (at.files file))
    leaving_either Show leaves = stays _ _
    leaving_either (Feature name) leaves = of_feature (stays session) name session.manifest
    leaving_either commands.Changes leaves = stays _ _
    leaving_either (Bind file) leaves = of_bindings_file (λ bindings. stays _ _) (file_tree file (at.files file))
    leaving_either commands.Preferences leaves = stays _ _
    leaving_either WriteManifest leaves = of_written (λ manifest. stays _ _) session.manifest
    leaving_either command leaves = absurd leaves

  -- ---- the enrolment changes

  pub enrolled_either : (counts : List NameCounts) (asked : EnrolmentOutcome) → ((e : State) (next : Session) (answer : Answer) → P (Accepted (with_enrolment session s e counts) next answer)) → P (whole s session counts asked)
  enrolled_either counts (Accepted e next answer) enrolled = whole_either P s session counts e next answer (refused ChangesSpent) (λ fits. enrolled e next answer)
  enrolled_either counts (Refused refusal) enrolled = refused refusal

  module _ (stays : (next : Session) (answer : Answer) → P (Accepted s next answer)) (enrolled : (e : State) (next : Session) (answer : Answer) → P (Accepted (with_enrolment session s e s.events) next answer)) where
    pub plain_either : (command : Command) → LeavesCounts command → P (outcome at s session command)
    plain_either (Fetch file) leaves = enrolled_either s.events (fetching s.enrolment session (file_tree file (at.files file))) enrolled
    plain_either Apply leaves = enrolled_either s.events (applying at.now s.enrolment session session.manifest (seeing at.now s.events session.context)) enrolled
    plain_either (Participate kinds on) leaves = enrolled_either s.events (participation s.enrolment session kinds on) enrolled
    plain_either (OptOut slug) leaves = enrolled_either s.events (opting_out s.enrolment session slug) enrolled
    plain_either (OptIn slug branch) leaves = enrolled_either s.events (opting_in s.enrolment session slug branch) enrolled
    plain_either command leaves = leaving_either stays command leaves

  -- ---- the counts or the outbox change

  pub counting_either : (name : List ℕ) (count : ℕ) → (has_no_room_for name s.events ≡ false → P (Accepted (record s { events = counted_in name count at.now s.events }) session Okay)) → P (counting at.now s session name count)
  counting_either name count counted =
      either P (has_no_room_for name s.events) (Refused EventLimit) (Accepted (record s { events = counted_in name count at.now s.events }) session Okay) (refused EventLimit) counted

  pub confirming_either : (number : ℕ) → (nat_le s.outbox.next number ≡ false → P (Accepted (record s { outbox = confirmed number s.outbox }) session Okay)) → P (confirming s session number)
  confirming_either number done =
      either P (nat_le s.outbox.next number) (Refused (NoSuchChange s.outbox.next)) (Accepted (record s { outbox = confirmed number s.outbox }) session Okay) (refused (NoSuchChange s.outbox.next)) done
