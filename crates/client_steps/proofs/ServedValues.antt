-- A step is answered a value only where a feature is asked for, and that is the served one.
use Rattle.std.proofs.Common.{◌≡◌, ℕ, Bool, true, false, List, [], length, Option, Some, None, refl, sym, ap, ◌∙◌, subst}
use Rattle.std.specs.Prelude.{nat_lt, if◌then◌else◌}
use Rattle.json_tree.specs.Tree.{json_of}
use Rattle.json_tree.specs.declared.tree.Tree.{Tree}
use Rattle.json_tree.specs.declared.tree.Tree.TheVariants.{Null}
use Rattle.fml_types.specs.declared.manifest.Manifest.{Manifest}
use Rattle.fml_value.specs.Trees as values
use Rattle.fml_value.specs.Typed.{TypedValue}
use Rattle.feature_serving.specs.Serving.{served, HasFeatureType}
use Rattle.feature_serving.proofs.Types.{served_typed}
use Rattle.event_counts.specs.declared.name_counts.NameCounts.{NameCounts}
use Rattle.client_state.specs.declared.client_state.ClientState.{ClientState}
use Rattle.client_state.specs.Sound.{max_size}
use Rattle.client_state.specs.Encoding.{encoding}
use Rattle.client_words.specs.declared.answer.Answer.{Answer}
use Rattle.client_words.specs.declared.answer.Answer.TheVariants.{Value}
use Rattle.client_words.specs.declared.refusal.Refusal.TheVariants.{StateTooLarge}
use Rattle.client_words.specs.declared.command.Command.{Command}
use Rattle.client_words.specs.declared.command.Command.TheVariants.{Fetch, Apply, Participate, OptOut, OptIn, Reset, Show, Feature, Event, Confirm, Bind, SetPreference, ClearPreference, WriteManifest}
use Rattle.client_words.specs.declared.command.Command.TheVariants as commands
use Rattle.client_steps.specs.declared.session.Session.{Session}
use Rattle.client_steps.specs.Fetching.{file_tree}
use Rattle.client_steps.specs.Manifests.{IsLinked, manifest_of}
use Rattle.client_steps.specs.ServedValues.{IsServed, ValuesAreServed, IsTyped, ValuesHaveTypes}
use Rattle.client_steps.specs.Settings.{Setting}
use Rattle.client_steps.specs.Soundness.{IsGiven, IsLawfulManifest}
use Rattle.client_steps.specs.Steps.{OutcomeOver, EnrolmentOutcome, Outcome, Accepted, Refused, Step, whole, seeing, counting, listing_changes, confirming, preferring, listing_preferences, participation, opting_out, opting_in, resetting, showing, fetching, reading_context, reading_bindings, setting_manifest, applying, valued, serving, writing_manifest, done, step, unchanged}
use Rattle.json_tree.specs.Inverse.{tree_from}
use Rattle.client_steps.proofs.LinkedManifests.{manifest_linked}
use Rattle.client_steps.proofs.SoundValues.{records_sound}
use Rattle.client_steps.proofs.EnrolmentOutcomes.{fetching_either, applying_either, opting_out_either, opting_in_either}
use Rattle.client_steps.proofs.Outcomes.{either_step, of_manifest, of_context_file, of_bindings_file, of_written, counting_either, confirming_either}
use Rattle.client_steps.proofs.Stepping.{whole_either, preferring_either}
use Rattle.json_tree.proofs.Trees.{same_values}
use Rattle.client_steps.proofs.Trees.{tree_of_value}

abbrev is_value : Answer → Bool
is_value (Value tree) = true
is_value answer = false

abbrev tree_in : Answer → Tree
tree_in (Value tree) = tree
tree_in answer = Null

-- ---- the commands that are answered no value

module _ (at : Setting) (s : ClientState) (session : Session) where
  abbrev NoValue : {S : Type 0} → OutcomeOver S → Type 0
  NoValue (Accepted t next answer) = is_value answer ≡ false
  NoValue (Refused refusal) = Unit {0}

  whole-none : (counts : List NameCounts) (asked : EnrolmentOutcome) → NoValue asked → NoValue (whole s session counts asked)
  whole-none counts (Accepted e next answer) none = whole_either (λ (asked : Outcome). NoValue asked) s session counts e next answer tt (λ fits. none)
  whole-none counts (Refused refusal) none = tt

  done-none : (asked : Outcome) → NoValue asked → is_value (done s session asked).answer ≡ false
  done-none (Accepted t next answer) none = either_step (λ to. is_value to.answer ≡ false) (nat_lt max_size (length (encoding t))) _ _ refl none
  done-none (Refused refusal) none = refl

  preferring-none : (name : List ℕ) (value : Option Tree) → NoValue (preferring s session name value)
  preferring-none name value = preferring_either (λ (asked : Outcome). NoValue asked) s session name value tt (λ free. refl) (λ holder held fits. refl)

  never : (asked : Outcome) (tree : Tree) → NoValue asked → (done s session asked).answer ≡ Value tree → ⊥
  never asked tree none is = absurd (let clash = ap is_value is in let plain = done-none asked none in cc)

  -- where the enrolment is asked for
  never_whole : (counts : List NameCounts) (asked : EnrolmentOutcome) (tree : Tree) → NoValue asked → (done s session (whole s session counts asked)).answer ≡ Value tree → ⊥
  never_whole counts asked tree none is = never (whole s session counts asked) tree (whole-none counts asked none) is

  -- ---- `feature`

  module _ (name : List ℕ) (tree : Tree) where
    abbrev Asked : Command → Type 0
    Asked command = (other : List ℕ) × (command ≡ Feature other) × IsServed s session other tree

    served_as : (manifest : Manifest) → session.manifest ≡ Some manifest → (value : TypedValue) → served manifest s.enrolment name ≡ Some value → tree_from (values.tree_of value) ≡ tree → Asked (Feature name)
    served_as manifest set value serves is =
        (name, refl, record { manifest = manifest; set = set; value = value; serves = serves; encoded = ap json_of (sym is) ∙ same_values (values.tree_of value) })

    valued_at : (manifest : Manifest) → session.manifest ≡ Some manifest → (value : TypedValue) → served manifest s.enrolment name ≡ Some value → (large : Bool)
        → let to : Step = if large then unchanged s session (StateTooLarge (length (encoding s))) else record { state = s; session = session; answer = Value (tree_from (values.tree_of value)) } in
        to.answer ≡ Value tree → Asked (Feature name)
    valued_at manifest set value serves true is = absurd (let clash = ap is_value is in cc)
    valued_at manifest set value serves false is = served_as manifest set value serves (ap tree_in is)

    found_at : (manifest : Manifest) → session.manifest ≡ Some manifest → (value : Option TypedValue) → served manifest s.enrolment name ≡ value → (done s session (valued s session value)).answer ≡ Value tree → Asked (Feature name)
    found_at manifest set None serves is = absurd (let clash = ap is_value is in cc)
    found_at manifest set (Some value) serves is = valued_at manifest set value serves (nat_lt max_size (length (encoding s))) is

    set_at : (manifest : Option Manifest) → session.manifest ≡ manifest → (done s session (serving s session name manifest)).answer ≡ Value tree → Asked (Feature name)
    set_at None set is = absurd (let clash = ap is_value is in cc)
    set_at (Some manifest) set is = found_at manifest set (served manifest s.enrolment name) refl is

  values_at : (command : Command) (tree : Tree) → (step at s session command).answer ≡ Value tree → (name : List ℕ) × (command ≡ Feature name) × IsServed s session name tree
  unfolding step
  values_at (commands.Manifest file channel) tree is =
      absurd (never (setting_manifest s session (manifest_of at.files file channel)) tree (of_manifest at s session (λ (asked : Outcome). NoValue asked) (λ refusal. tt) (λ manifest. refl) (manifest_of at.files file channel)) is)
  values_at (commands.Context file) tree is =
      absurd (never (reading_context s session (file_tree file (at.files file))) tree (of_context_file at s session (λ (asked : Outcome). NoValue asked) (λ refusal. tt) (λ context. refl) (file_tree file (at.files file))) is)
  values_at (Fetch file) tree is = absurd (never_whole s.events (fetching s.enrolment session (file_tree file (at.files file))) tree (fetching_either s.enrolment session (λ (asked : EnrolmentOutcome). NoValue asked) (λ refusal. tt) (file_tree file (at.files file)) (λ tree found is loads. refl)) is)
  values_at Apply tree is =
      absurd (never_whole s.events (applying at.now s.enrolment session session.manifest (seeing at.now s.events session.context)) tree (applying_either s.enrolment session (λ (asked : EnrolmentOutcome). NoValue asked) (λ refusal. tt) at.now session.manifest (seeing at.now s.events session.context) (λ m c. refl)) is)
  values_at (Participate kinds on) tree is = absurd (never_whole s.events (participation s.enrolment session kinds on) tree refl is)
  values_at (OptOut slug) tree is = absurd (never_whole s.events (opting_out s.enrolment session slug) tree (opting_out_either s.enrolment session (λ (asked : EnrolmentOutcome). NoValue asked) (λ refusal. tt) slug refl) is)
  values_at (OptIn slug branch) tree is = absurd (never_whole s.events (opting_in s.enrolment session slug branch) tree (opting_in_either s.enrolment session (λ (asked : EnrolmentOutcome). NoValue asked) (λ refusal. tt) slug branch refl) is)
  values_at (Reset id) tree is = absurd (never_whole [] (resetting s.enrolment session id) tree refl is)
  values_at Show tree is = absurd (never (showing s session) tree refl is)
  values_at (Feature name) tree is = set_at name tree session.manifest refl is
  values_at (Event name count) tree is = absurd (never (counting at.now s session name count) tree (counting_either at s session (λ (asked : Outcome). NoValue asked) (λ refusal. tt) name count (λ room. refl)) is)
  values_at commands.Changes tree is = absurd (never (listing_changes s session) tree refl is)
  values_at (Confirm number) tree is = absurd (never (confirming s session number) tree (confirming_either at s session (λ (asked : Outcome). NoValue asked) (λ refusal. tt) number (λ known. refl)) is)
  values_at (Bind file) tree is =
      absurd (never (reading_bindings s session (file_tree file (at.files file))) tree (of_bindings_file at s session (λ (asked : Outcome). NoValue asked) (λ refusal. tt) (λ bindings. refl) (file_tree file (at.files file))) is)
  values_at (SetPreference name value) tree is = absurd (never (preferring s session name (Some value)) tree (preferring-none name (Some value)) is)
  values_at (ClearPreference name) tree is = absurd (never (preferring s session name None) tree (preferring-none name None) is)
  values_at commands.Preferences tree is = absurd (never (listing_preferences s session) tree refl is)
  values_at WriteManifest tree is = absurd (never (writing_manifest s session session.manifest) tree (of_written at s session (λ (asked : Outcome). NoValue asked) (λ refusal. tt) (λ manifest. refl) session.manifest) is)

pub values_are_served : ValuesAreServed
values_are_served at s session command tree is = values_at at s session command tree is

-- ---- the type

-- a feature's value
module _ (s : ClientState) (session : Session) (name : List ℕ) (manifest : Manifest) (set : session.manifest ≡ Some manifest) (value : TypedValue) (serves : served manifest s.enrolment name ≡ Some value) (tree : Tree) (encoded : json_of tree ≡ values.tree_of value) where
  pub typed_answer : (answer : Answer) → answer ≡ Value tree → HasFeatureType manifest name value → IsTyped s session (Feature name) answer
  typed_answer answer is typed = subst (λ (a : Answer). IsTyped s session (Feature name) a) (sym is)
      (record { served = record { manifest = manifest; set = set; value = value; serves = serves; encoded = encoded }; typed = typed })

  pub serving_is : Accepted s session (Value tree) ≡ serving s session name session.manifest
  serving_is = ap (λ (t : Tree). Accepted s session (Value t)) (tree_of_value tree (values.tree_of value) encoded) ∙ ap (valued s session) (sym serves) ∙ ap (serving s session name) (sym set)

pub values_have_types : ValuesHaveTypes
values_have_types at s session command tree sound lawful is =
    let found = values_are_served at s session command tree is in
    let it = found.2 in
    let given : IsGiven it.manifest = subst IsLawfulManifest it.set lawful.manifest in
    let linked : IsLinked it.manifest = manifest_linked given.files given.first given.channel it.manifest given.links in
    (found.0, found.1, record { served = it; typed = served_typed it.manifest s.enrolment found.0 it.value linked.sound (records_sound s.enrolment.live sound.records.live) it.serves })
