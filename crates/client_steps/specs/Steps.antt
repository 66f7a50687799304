-- One step of a client: what a command makes of the state and of the session, and its answer.
use Rattle.std.specs.Prelude.{ℕ, Bool, ◌&&◌, nat_lt, nat_le, List, [], length, count_by, is_some, is_none, option_map, Option, None, Some, Result, Ok, Err, if◌then◌else◌}
use Rattle.json_tree.specs.Json.{Json}
use Rattle.json_tree.specs.declared.tree.Tree.{Tree}
use Rattle.recipe_reader.specs.declared.payload.Payload.{Payload}
use Rattle.recipe_reader.specs.declared.payload.PayloadFault.{PayloadFault}
use Rattle.recipe_reader.specs.declared.payload.PayloadFault.TheVariants as payload
use Rattle.enrol_states.specs.declared.participation.Kinds.{Kinds}
use Rattle.enrol_states.specs.declared.state.State.{State}
use Rattle.recipe_reader.specs.Kinds.{kind_of}
use Rattle.recipe_reader.specs.Payloads.{payload_of, recipe_with}
use Rattle.recipe_reader.specs.declared.recipe.Recipe.{Recipe}
use Rattle.app_context.specs.Contexts.{context_of}
use Rattle.app_context.specs.Events.{with_events}
use Rattle.app_context.specs.declared.context.Context.{Context}
use Rattle.app_context.specs.declared.key.ContextKey.{ContextKey}
use Rattle.enrol_evolver.specs.Evolution.{evolution}
use Rattle.enrol_states.specs.Choices.{has_no_room}
use Rattle.event_counts.specs.Kept.{counted_in, found}
use Rattle.event_counts.specs.View.{view_of}
use Rattle.event_counts.specs.declared.name_counts.NameCounts.{NameCounts}
use Rattle.change_outbox.specs.Contents.{confirmed}
use Rattle.pref_bindings.specs.Bindings.{bindings_of}
use Rattle.pref_bindings.specs.Preferences.{holder_of}
use Rattle.pref_bindings.specs.declared.bindings.Binding.{Binding}
use Rattle.pref_bindings.specs.declared.preference.Preference.{Preference}
use Rattle.fml_types.specs.Coenrolling.{coenrolling}
use Rattle.fml_types.specs.declared.manifest.Manifest.{Manifest}
use Rattle.fml_imports.specs.Single.{single}
use Rattle.fml_value.specs.Trees.{tree_of}
use Rattle.fml_value.specs.Typed.{TypedValue}
use Rattle.feature_serving.specs.Serving.{served}
use Rattle.enrol_states.specs.Commands.{after_participate, after_opt_out, after_opt_in, after_reset, enrolment_ended}
use Rattle.enrol_states.specs.Participation.{takes_part}
use Rattle.enrol_states.specs.Recipes.{has_branch}
use Rattle.enrol_states.specs.Statuses.{is_enrolled}
use Rattle.client_state.specs.Changes.{with_users_value}
use Rattle.client_state.specs.Following.{appended_changes, changes_done, changes_from, is_spent, join_values}
use Rattle.client_state.specs.Encoding.{encoding}
use Rattle.client_state.specs.Sound.{max_size}
use Rattle.client_state.specs.declared.client_state.ClientState.{ClientState}
use Rattle.client_words.specs.declared.command.Command.{Command}
use Rattle.client_words.specs.declared.command.Command.TheVariants.{Apply, Participate, OptOut, OptIn, Reset, Show, Feature, Fetch, Event, Confirm, Bind, SetPreference, ClearPreference, WriteManifest}
use Rattle.client_words.specs.declared.command.Command.TheVariants as commands
use Rattle.client_words.specs.declared.answer.Answer.{Answer}
use Rattle.client_words.specs.declared.answer.Answer.TheVariants.{Okay, Fetched, Applied, Value, Shown}
use Rattle.client_words.specs.declared.refusal.Refusal.{Refusal}
use Rattle.client_words.specs.declared.refusal.Refusal.TheVariants.{NoManifest, NoContext, BadContext, BadBinding, NoData, TooManyRecipes, UnknownFeature, OptedOutLimit, NotParticipating, NoSuchExperiment, NoSuchBranch, FeatureTaken, EventLimit, NoSuchChange, ChangesSpent, StateTooLarge}
use Rattle.client_words.specs.declared.answer.Answer.TheVariants as answers
use Rattle.client_steps.specs.declared.session.Session.{Session}
use Rattle.client_steps.specs.Choosing.{first_taker}
use Rattle.client_steps.specs.Fetching.{file_tree}
use Rattle.client_steps.specs.Manifests.{manifest_of}
use Rattle.json_tree.specs.Inverse.{tree_from}
use Rattle.client_steps.specs.Sessions.{with_manifest, with_context, with_bindings}
use Rattle.client_steps.specs.Settings.{Setting}

-- what is asked for: a new state and session with an answer, or a refusal
pub data OutcomeOver (S : Type 0) : Type 0 where
  Accepted : (state : S) → (session : Session) → (answer : Answer) → OutcomeOver S
  Refused : (refusal : Refusal) → OutcomeOver S

-- what a command asks for
abbrev pub Outcome : Type 0
Outcome = OutcomeOver ClientState

-- what it asks for of the enrolment, where it changes that
abbrev pub EnrolmentOutcome : Type 0
EnrolmentOutcome = OutcomeOver State

-- ---- commands that change the enrolment

-- `participate`
abbrev pub participation : State → Session → Kinds → Bool → EnrolmentOutcome
participation e session kinds on = Accepted (after_participate e kinds on) session Okay

-- `opt-out`
abbrev pub opting_out : State → Session → List ℕ → EnrolmentOutcome
opting_out e session slug = if has_no_room e.opted_out slug then Refused OptedOutLimit else Accepted (after_opt_out e slug) session Okay

-- `opt-in`, where the recipe has the branch: no other recipe may hold a feature of it
abbrev pub taking : State → Session → List ℕ → List ℕ → Option (List ℕ × List ℕ) → EnrolmentOutcome
taking e session slug branch None = Accepted (after_opt_in e slug branch) session Okay
taking e session slug branch (Some taker) = Refused (FeatureTaken taker.0 taker.1)

-- `opt-in`, where the client takes part in recipes of the kind: the recipe has the branch
abbrev pub offering : State → Session → List ℕ → List ℕ → Recipe → EnrolmentOutcome
offering e session slug branch r = if has_branch r branch then taking e session slug branch (first_taker e r e.rows) else Refused NoSuchBranch

-- `opt-in`, of the slug's live recipe
abbrev pub choosing : State → Session → List ℕ → List ℕ → Option Recipe → EnrolmentOutcome
choosing e session slug branch None = Refused NoSuchExperiment
choosing e session slug branch (Some r) = if takes_part e (kind_of r) then offering e session slug branch r else Refused NotParticipating

-- `opt-in`
abbrev pub opting_in : State → Session → List ℕ → List ℕ → EnrolmentOutcome
opting_in e session slug branch = choosing e session slug branch (recipe_with slug e.live)

-- `reset`
abbrev pub resetting : State → Session → List ℕ → EnrolmentOutcome
resetting e session id = Accepted (after_reset e id) session Okay

-- `fetch`, where the file holds a payload. No payload wants memory
abbrev pub fetched : State → Session → Result Payload PayloadFault → EnrolmentOutcome
fetched e session (Ok found) = Accepted (record e { pending = Some found.recipes }) session (Fetched (length found.recipes) found.skipped)
fetched e session (Err payload.NoData) = Refused NoData
fetched e session (Err (payload.TooManyRecipes count)) = Refused (TooManyRecipes count)
fetched e session (Err payload.OutOfMemory) = Refused NoData

-- `fetch`
abbrev pub fetching : State → Session → Result Json Refusal → EnrolmentOutcome
fetching e session (Ok tree) = fetched e session (payload_of tree)
fetching e session (Err refusal) = Refused refusal

-- what `apply` says of the new enrolment: in how many recipes the client is enrolled, and how many rows there are
abbrev pub applied_answer : State → Answer
applied_answer e = Applied (count_by (λ row. is_enrolled row.status) e.rows) (length e.rows)

-- the enrolment after an apply: the features that may be shared are those of the manifest
abbrev pub applied : ℕ → State → Manifest → Context → State
applied now e manifest context = evolution e context (coenrolling manifest.features) now

-- `apply`, of the manifest that was set last and the context that was read last
abbrev pub applying : ℕ → State → Session → Option Manifest → Option Context → EnrolmentOutcome
applying now e session None context = Refused NoManifest
applying now e session (Some manifest) None = Refused NoContext
applying now e session (Some manifest) (Some context) = Accepted (applied now e manifest context) session (applied_answer (applied now e manifest context))

-- ---- their state

-- the preferences where each enrolment that ends has left them, and then each that begins has joined them, by the session's manifest and bindings
abbrev pub preferences_with : Session → State → State → List Preference → List Preference
preferences_with session e next ps = changes_done (join_values session.manifest session.bindings next) (changes_from e next) ps

-- the state with another enrolment, whose changes are in the outbox and in the preferences, and these counts of events
abbrev pub with_enrolment : Session → ClientState → State → List NameCounts → ClientState
with_enrolment session s e counts = record { enrolment = e; events = counts; outbox = appended_changes s.enrolment e s.outbox; preferences = preferences_with session s.enrolment e s.preferences }

-- the same, unless the outbox has no numbers for the changes
abbrev pub whole : ClientState → Session → List NameCounts → EnrolmentOutcome → Outcome
whole s session counts (Accepted e next answer) = if is_spent s.enrolment e s.outbox then Refused ChangesSpent else Accepted (with_enrolment session s e counts) next answer
whole s session counts (Refused refusal) = Refused refusal

-- the counts stay
abbrev pub enrolling : ClientState → Session → EnrolmentOutcome → Outcome
enrolling s session asked = whole s session s.events asked

-- targeting sees the counts as this moment sees them
abbrev pub seeing : ℕ → List NameCounts → Option Context → Option Context
seeing now counts context = option_map (λ c. with_events c (view_of now counts)) context

-- ---- the command that counts

-- the name has no counts, and 64 names have
abbrev pub has_no_room_for : List ℕ → List NameCounts → Bool
has_no_room_for name counts = is_none (found name counts) && nat_le 64 (length counts)

-- `event`
abbrev pub counting : ℕ → ClientState → Session → List ℕ → ℕ → Outcome
counting now s session name count = if has_no_room_for name s.events then Refused EventLimit else Accepted (record s { events = counted_in name count now s.events }) session Okay

-- ---- the command that confirms

-- `confirm`: a change has the number
abbrev pub confirming : ClientState → Session → ℕ → Outcome
confirming s session number = if nat_le s.outbox.next number then Refused (NoSuchChange s.outbox.next) else Accepted (record s { outbox = confirmed number s.outbox }) session Okay

-- ---- the commands of the user's preferences

-- nobody holds the preference: where a slug does, its enrolment ends
abbrev pub releasing : ClientState → Session → Option (List ℕ) → Outcome
releasing s session None = Accepted s session Okay
releasing s session (Some holder) = enrolling s session (Accepted (enrolment_ended holder s.enrolment) session Okay)

-- what is asked for, and then the user's value is set or taken away
abbrev pub valued_by_user : List ℕ → Option Tree → Outcome → Outcome
valued_by_user name value (Accepted s session answer) = Accepted (with_users_value name value s) session answer
valued_by_user name value (Refused refusal) = Refused refusal

-- `set-pref`, with a value, and `clear-pref`: once nobody holds the preference
abbrev pub preferring : ClientState → Session → List ℕ → Option Tree → Outcome
preferring s session name value = valued_by_user name value (releasing s session (holder_of name s.preferences))

-- ---- commands that change the session alone

-- `context`, where the file holds a value
abbrev pub context_read : ClientState → Session → Result Context ContextKey → Outcome
context_read s session (Ok context) = Accepted s (with_context session context) Okay
context_read s session (Err key) = Refused (BadContext key)

-- `context`
abbrev pub reading_context : ClientState → Session → Result Json Refusal → Outcome
reading_context s session (Ok tree) = context_read s session (context_of tree)
reading_context s session (Err refusal) = Refused refusal

-- `bind`, where the file holds a value
abbrev pub bindings_read : ClientState → Session → Result (List Binding) (List ℕ) → Outcome
bindings_read s session (Ok bindings) = Accepted s (with_bindings session bindings) Okay
bindings_read s session (Err feature) = Refused (BadBinding feature)

-- `bind`
abbrev pub reading_bindings : ClientState → Session → Result Json Refusal → Outcome
reading_bindings s session (Ok tree) = bindings_read s session (bindings_of tree)
reading_bindings s session (Err refusal) = Refused refusal

-- `manifest`
abbrev pub setting_manifest : ClientState → Session → Result Manifest Refusal → Outcome
setting_manifest s session (Ok manifest) = Accepted s (with_manifest session manifest) Okay
setting_manifest s session (Err refusal) = Refused refusal

-- ---- commands that change nothing

-- `show`
abbrev pub shown_answer : State → Answer
shown_answer e = Shown e.id e.experiments e.rollouts (is_some e.pending) e.opted_out e.rows

abbrev pub showing : ClientState → Session → Outcome
showing s session = Accepted s session (shown_answer s.enrolment)

-- `changes`
abbrev pub listing_changes : ClientState → Session → Outcome
listing_changes s session = Accepted s session (answers.Changes s.outbox.entries)

-- `prefs`
abbrev pub listing_preferences : ClientState → Session → Outcome
listing_preferences s session = Accepted s session (answers.Preferences s.preferences)

-- `feature`, where the manifest has it
abbrev pub valued : ClientState → Session → Option TypedValue → Outcome
valued s session None = Refused UnknownFeature
valued s session (Some value) = Accepted s session (Value (tree_from (tree_of value)))

-- `feature`, of the manifest that was set last
abbrev pub serving : ClientState → Session → List ℕ → Option Manifest → Outcome
serving s session name None = Refused NoManifest
serving s session name (Some manifest) = valued s session (served manifest s.enrolment name)

-- `write-manifest`, of the manifest that was set last
abbrev pub writing_manifest : ClientState → Session → Option Manifest → Outcome
writing_manifest s session None = Refused NoManifest
writing_manifest s session (Some manifest) = Accepted s session (answers.Manifest (tree_from (single manifest)))

-- ---- every command

-- what each command asks for. A reset forgets the events
abbrev pub outcome : Setting → ClientState → Session → Command → Outcome
outcome at s session (commands.Manifest file channel) = setting_manifest s session (manifest_of at.files file channel)
outcome at s session (commands.Context file) = reading_context s session (file_tree file (at.files file))
outcome at s session Apply = enrolling s session (applying at.now s.enrolment session session.manifest (seeing at.now s.events session.context))
outcome at s session (Participate kinds on) = enrolling s session (participation s.enrolment session kinds on)
outcome at s session (OptOut slug) = enrolling s session (opting_out s.enrolment session slug)
outcome at s session (OptIn slug branch) = enrolling s session (opting_in s.enrolment session slug branch)
outcome at s session (Reset id) = whole s session [] (resetting s.enrolment session id)
outcome at s session Show = showing s session
outcome at s session (Feature name) = serving s session name session.manifest
outcome at s session (Fetch file) = enrolling s session (fetching s.enrolment session (file_tree file (at.files file)))
outcome at s session (Event name count) = counting at.now s session name count
outcome at s session commands.Changes = listing_changes s session
outcome at s session (Confirm number) = confirming s session number
outcome at s session (Bind file) = reading_bindings s session (file_tree file (at.files file))
outcome at s session (SetPreference name value) = preferring s session name (Some value)
outcome at s session (ClearPreference name) = preferring s session name None
outcome at s session commands.Preferences = listing_preferences s session
outcome at s session WriteManifest = writing_manifest s session session.manifest

-- what a command leaves, and its answer
pub record Step : Type 0 where
  pub state : ClientState
  pub session : Session
  pub answer : Answer

-- a refusal changes nothing
abbrev pub unchanged : ClientState → Session → Refusal → Step
unchanged s session refusal = record { state = s; session = session; answer = answers.Refused refusal }

-- what is asked for is done, unless it is refused or the new state is too large
abbrev pub done : ClientState → Session → Outcome → Step
done s session (Refused refusal) = unchanged s session refusal
done s session (Accepted t next answer) = if nat_lt max_size (length (encoding t)) then unchanged s session (StateTooLarge (length (encoding t))) else record { state = t; session = next; answer = answer }

unfoldable pub step : Setting → ClientState → Session → Command → Step
step at s session command = done s session (outcome at s session command)
