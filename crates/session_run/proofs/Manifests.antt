-- Which manifest a run has set.
use Rattle.std.proofs.Common.{◌≡◌, ◌⊎◌, inl, inr, ⊎_elim, ℕ, zero, suc, ◌<◌, ◌≤◌, ◌+◌, Bool, true, false, List, [], length, get_or, refl, sym, ◌∙◌, ap, subst, arith, below_more, Option, Some, None, Result, Ok, Err}
use Rattle.std.specs.Prelude.{nat_lt, slice_get, if◌then◌else◌}
use Rattle.std.proofs.lemmas.List.{take_more}
use Rattle.std.proofs.lemmas.Option.{slice_get-get_or}
use Rattle.json_tree.specs.Json.{Json}
use Rattle.json_tree.specs.declared.tree.Tree.{Tree}
use Rattle.app_context.specs.Contexts.{context_of}
use Rattle.app_context.specs.declared.context.Context.{Context}
use Rattle.app_context.specs.declared.key.ContextKey.{ContextKey}
use Rattle.event_counts.specs.declared.name_counts.NameCounts.{NameCounts}
use Rattle.pref_bindings.specs.Bindings.{bindings_of}
use Rattle.pref_bindings.specs.declared.bindings.Binding.{Binding}
use Rattle.client_state.specs.declared.client_state.ClientState.{ClientState}
use Rattle.client_state.specs.Sound.{max_size}
use Rattle.client_state.specs.Encoding.{encoding}
use Rattle.fml_types.specs.declared.manifest.Manifest.{Manifest}
use Rattle.fml_value.specs.Typed.{TypedValue}
use Rattle.feature_serving.specs.Serving.{served}
use Rattle.client_words.specs.declared.answer.Answer.{Answer}
use Rattle.client_words.specs.declared.answer.Answer.TheVariants.{Okay}
use Rattle.client_words.specs.declared.refusal.Refusal.{Refusal}
use Rattle.client_words.specs.declared.refusal.Refusal.TheVariants.{StateTooLarge}
use Rattle.client_words.specs.declared.command.Command.{Command}
use Rattle.client_words.specs.declared.command.Command.TheVariants.{Fetch, Apply, Participate, OptOut, OptIn, Reset, Show, Feature, Event, Confirm, Bind, SetPreference, ClearPreference, WriteManifest}
use Rattle.client_words.specs.declared.command.Command.TheVariants as commands
use Rattle.client_steps.specs.declared.session.Session.{Session}
use Rattle.client_steps.specs.Fetching.{file_tree}
use Rattle.client_steps.specs.Manifests.{manifest_of}
use Rattle.client_steps.specs.Sessions.{with_manifest}
use Rattle.client_steps.specs.Settings.{Setting}
use Rattle.client_steps.specs.Steps.{OutcomeOver, EnrolmentOutcome, Outcome, Accepted, Refused, Step, whole, enrolling, seeing, counting, confirming, participation, opting_out, opting_in, resetting, showing, listing_changes, listing_preferences, fetching, context_read, reading_context, bindings_read, reading_bindings, preferring, setting_manifest, applying, valued, serving, writing_manifest, done, step, unchanged}
use Rattle.client_words.specs.declared.line.LineFault.{LineFault}
use Rattle.client_words.specs.Commands.{command_of}
use Rattle.client_steps.proofs.EnrolmentOutcomes.{fetching_either, applying_either, opting_out_either, opting_in_either}
use Rattle.client_steps.proofs.Outcomes.{either_step, counting_either, confirming_either}
use Rattle.client_steps.proofs.Stepping.{whole_either, preferring_either}
use Rattle.session_run.specs.Steps.{RunState, run_after, effect, run_at}
use Rattle.session_run.specs.Values.{LineSets, IsSetLast}
use Rattle.session_run.proofs.Running.{run-more}

some_one : {A : Type 0} {a b : A} → Some a ≡ Some b → a ≡ b
some_one e = cc

pub ok_one : {A B : Type 0} {a b : A} (read : Result A B) → read ≡ Ok a → read ≡ Ok b → a ≡ b
ok_one read first second = cc

pub not_ok : {A B : Type 0} {a : A} {b : B} (read : Result A B) → read ≡ Err b → read ≡ Ok a → ⊥
not_ok read err ok = absurd cc

no_some : {A : Type 0} {a : A} → None ≡ Some a → ⊥
no_some e = absurd cc

-- ---- one command

-- the command sets this manifest
record Sets (at : Setting) (s : ClientState) (session : Session) (command : Command) (m : Manifest) : Type 0 where
  file : List ℕ
  channel : List ℕ
  asked : command ≡ commands.Manifest file channel
  answer : (step at s session command).answer ≡ Okay
  manifest : manifest_of at.files file channel ≡ Ok m

-- it sets this manifest, or none, and then this one was set before
abbrev SetsOrStays : Setting → ClientState → Session → Command → Manifest → Type 0
SetsOrStays at s session command m = Sets at s session command m ⊎ ((session.manifest ≡ Some m) × ((that : Manifest) → Sets at s session command that → ⊥))

module _ (at : Setting) (s : ClientState) (session : Session) where
  abbrev Keeps : {S : Type 0} → OutcomeOver S → Type 0
  Keeps (Accepted t next answer) = next.manifest ≡ session.manifest
  Keeps (Refused refusal) = Unit {0}

  done-keeps : (asked : Outcome) → Keeps asked → (done s session asked).session.manifest ≡ session.manifest
  done-keeps (Accepted t next answer) keeps = either_step (λ to. to.session.manifest ≡ session.manifest) (nat_lt max_size (length (encoding t))) _ _ refl keeps
  done-keeps (Refused refusal) keeps = refl

  whole-keeps : (counts : List NameCounts) (asked : EnrolmentOutcome) → Keeps asked → Keeps (whole s session counts asked)
  whole-keeps counts (Accepted e next answer) keeps = whole_either (λ (asked : Outcome). Keeps asked) s session counts e next answer tt (λ fits. keeps)
  whole-keeps counts (Refused refusal) keeps = tt

  -- where the counts stay
  enrolling-keeps : (asked : EnrolmentOutcome) → Keeps asked → (done s session (enrolling s session asked)).session.manifest ≡ session.manifest
  enrolling-keeps asked keeps = done-keeps (enrolling s session asked) (whole-keeps s.events asked keeps)

  context-keeps : (read : Result Context ContextKey) → Keeps (context_read s session read)
  context-keeps (Ok context) = refl
  context-keeps (Err key) = tt

  file-keeps : (read : Result Json Refusal) → Keeps (reading_context s session read)
  file-keeps (Ok tree) = context-keeps (context_of tree)
  file-keeps (Err refusal) = tt

  bindings-keep : (read : Result (List Binding) (List ℕ)) → Keeps (bindings_read s session read)
  bindings-keep (Ok bindings) = refl
  bindings-keep (Err feature) = tt

  bind-keeps : (read : Result Json Refusal) → Keeps (reading_bindings s session read)
  bind-keeps (Ok tree) = bindings-keep (bindings_of tree)
  bind-keeps (Err refusal) = tt

  preferring-keeps : (name : List ℕ) (value : Option Tree) → Keeps (preferring s session name value)
  preferring-keeps name value = preferring_either (λ (asked : Outcome). Keeps asked) s session name value tt (λ free. refl) (λ holder held fits. refl)

  value-keeps : (value : Option TypedValue) → Keeps (valued s session value)
  value-keeps None = tt
  value-keeps (Some value) = refl

  feature-keeps : (name : List ℕ) (manifest : Option Manifest) → Keeps (serving s session name manifest)
  feature-keeps name None = tt
  feature-keeps name (Some manifest) = value-keeps (served manifest s.enrolment name)

  written-keeps : (manifest : Option Manifest) → Keeps (writing_manifest s session manifest)
  written-keeps None = tt
  written-keeps (Some manifest) = refl

  -- a command that is no `manifest` stays
  stays : (command : Command) (m : Manifest) → ((file channel : List ℕ) → command ≡ commands.Manifest file channel → ⊥) → (step at s session command).session.manifest ≡ session.manifest
      → (step at s session command).session.manifest ≡ Some m → SetsOrStays at s session command m
  stays command m other keeps is = inr (sym keeps ∙ is, λ that sets. other sets.file sets.channel sets.asked)

  -- what a `manifest` is answered whose files make this
  abbrev answer_to : Result Manifest Refusal → Answer
  answer_to read = (done s session (setting_manifest s session read)).answer

  -- it is done, unless the state is too large
  made : (m found : Manifest) (large : Bool)
      → let to : Step = if large then unchanged s session (StateTooLarge (length (encoding s))) else record { state = s; session = with_manifest session found; answer = Okay } in
      to.session.manifest ≡ Some m → ((to.answer ≡ Okay) × (found ≡ m)) ⊎ ((session.manifest ≡ Some m) × (to.answer ≡ Okay → ⊥))
  made m found true is = inr (is, λ okay. absurd cc)
  made m found false is = inl (refl, some_one is)

  manifest-sets : (file channel : List ℕ) (m : Manifest) (read : Result Manifest Refusal) → manifest_of at.files file channel ≡ read
      → (done s session (setting_manifest s session read)).session.manifest ≡ Some m → SetsOrStays at s session (commands.Manifest file channel) m
  unfolding step
  manifest-sets file channel m (Ok found) makes is =
      ⊎_elim (λ done_as. inl (record {
        file = file;
        channel = channel;
        asked = refl;
        answer = subst (λ (read : Result Manifest Refusal). answer_to read ≡ Okay) (sym makes) done_as.0;
        manifest = makes ∙ ap Ok done_as.1;
      }))
      (λ refused. inr (refused.0, λ that sets. refused.1 (subst (λ (read : Result Manifest Refusal). answer_to read ≡ Okay) makes sets.answer)))
      (made m found (nat_lt max_size (length (encoding s))) is)
  manifest-sets file channel m (Err refusal) makes is = inr (is, λ that sets. none that sets)
    where
      none : (that : Manifest) → Sets at s session (commands.Manifest file channel) that → ⊥
      none that sets =
          let first : file ≡ sets.file = cc in
          let second : channel ≡ sets.channel = cc in
          let both : manifest_of at.files file channel ≡ Ok that = subst (λ (f : List ℕ). manifest_of at.files f channel ≡ Ok that) (sym first) (subst (λ (c : List ℕ). manifest_of at.files sets.file c ≡ Ok that) (sym second) sets.manifest) in
          absurd cc

  sets_or_stays : (command : Command) (m : Manifest) → (step at s session command).session.manifest ≡ Some m → SetsOrStays at s session command m
  unfolding step
  sets_or_stays (commands.Manifest file channel) m is = manifest-sets file channel m (manifest_of at.files file channel) refl is
  sets_or_stays (commands.Context file) m is = stays (commands.Context file) m (λ f c e. cc) (done-keeps (reading_context s session (file_tree file (at.files file))) (file-keeps (file_tree file (at.files file)))) is
  sets_or_stays (Fetch file) m is = stays (Fetch file) m (λ f c e. cc) (enrolling-keeps (fetching s.enrolment session (file_tree file (at.files file))) (fetching_either s.enrolment session (λ (asked : EnrolmentOutcome). Keeps asked) (λ refusal. tt) (file_tree file (at.files file)) (λ tree found is loads. refl))) is
  sets_or_stays Apply m is = stays Apply m (λ f c e. cc) (enrolling-keeps (applying at.now s.enrolment session session.manifest (seeing at.now s.events session.context)) (applying_either s.enrolment session (λ (asked : EnrolmentOutcome). Keeps asked) (λ refusal. tt) at.now session.manifest (seeing at.now s.events session.context) (λ m c. refl))) is
  sets_or_stays (Participate part on) m is = stays (Participate part on) m (λ f c e. cc) (enrolling-keeps (participation s.enrolment session part on) refl) is
  sets_or_stays (OptOut slug) m is = stays (OptOut slug) m (λ f c e. cc) (enrolling-keeps (opting_out s.enrolment session slug) (opting_out_either s.enrolment session (λ (asked : EnrolmentOutcome). Keeps asked) (λ refusal. tt) slug refl)) is
  sets_or_stays (OptIn slug branch) m is = stays (OptIn slug branch) m (λ f c e. cc) (enrolling-keeps (opting_in s.enrolment session slug branch) (opting_in_either s.enrolment session (λ (asked : EnrolmentOutcome). Keeps asked) (λ refusal. tt) slug branch refl)) is
  sets_or_stays (Reset id) m is = stays (Reset id) m (λ f c e. cc) (done-keeps (whole s session [] (resetting s.enrolment session id)) (whole-keeps [] (resetting s.enrolment session id) refl)) is
  sets_or_stays Show m is = stays Show m (λ f c e. cc) (done-keeps (showing s session) refl) is
  sets_or_stays (Feature name) m is = stays (Feature name) m (λ f c e. cc) (done-keeps (serving s session name session.manifest) (feature-keeps name session.manifest)) is
  sets_or_stays (Event name count) m is = stays (Event name count) m (λ f c e. cc) (done-keeps (counting at.now s session name count) (counting_either at s session (λ (asked : Outcome). Keeps asked) (λ refusal. tt) name count (λ room. refl))) is
  sets_or_stays commands.Changes m is = stays commands.Changes m (λ f c e. cc) (done-keeps (listing_changes s session) refl) is
  sets_or_stays (Confirm number) m is = stays (Confirm number) m (λ f c e. cc) (done-keeps (confirming s session number) (confirming_either at s session (λ (asked : Outcome). Keeps asked) (λ refusal. tt) number (λ known. refl))) is
  sets_or_stays (Bind file) m is = stays (Bind file) m (λ f c e. cc) (done-keeps (reading_bindings s session (file_tree file (at.files file))) (bind-keeps (file_tree file (at.files file)))) is
  sets_or_stays (SetPreference name value) m is = stays (SetPreference name value) m (λ f c e. cc) (done-keeps (preferring s session name (Some value)) (preferring-keeps name (Some value))) is
  sets_or_stays (ClearPreference name) m is = stays (ClearPreference name) m (λ f c e. cc) (done-keeps (preferring s session name None) (preferring-keeps name None)) is
  sets_or_stays commands.Preferences m is = stays commands.Preferences m (λ f c e. cc) (done-keeps (listing_preferences s session) refl) is
  sets_or_stays WriteManifest m is = stays WriteManifest m (λ f c e. cc) (done-keeps (writing_manifest s session session.manifest) (written-keeps session.manifest)) is

-- ---- one line

module _ (at : Setting) (run : RunState) (line : List ℕ) where
  sets_line : (command : Command) (m : Manifest) → command_of line ≡ Ok command → Sets at run.state run.session command m → LineSets at run line m
  sets_line command m reads sets = record {
    file = sets.file;
    channel = sets.channel;
    command = reads ∙ ap Ok sets.asked;
    done = subst (λ (c : Command). (step at run.state run.session c).answer ≡ Okay) sets.asked sets.answer;
    manifest = sets.manifest;
  }

  line_sets : (command : Command) (m : Manifest) → command_of line ≡ Ok command → LineSets at run line m → Sets at run.state run.session command m
  line_sets command m reads sets =
      let asked : command ≡ commands.Manifest sets.file sets.channel = ok_one (command_of line) reads sets.command in
      record {
        file = sets.file;
        channel = sets.channel;
        asked = asked;
        answer = subst (λ (c : Command). (step at run.state run.session c).answer ≡ Okay) (sym asked) sets.done;
        manifest = sets.manifest;
      }

  -- the line sets this manifest, or none, and then this one was set before
  read_sets : (read : Result Command LineFault) → command_of line ≡ read → (m : Manifest) → (effect at run read).session.manifest ≡ Some m
      → LineSets at run line m ⊎ ((run.session.manifest ≡ Some m) × ((that : Manifest) → LineSets at run line that → ⊥))
  read_sets (Ok command) reads m is =
      ⊎_elim (λ sets. inl (sets_line command m reads sets)) (λ stayed. inr (stayed.0, λ that sets. stayed.1 that (line_sets command that reads sets)))
      (sets_or_stays at run.state run.session command m is)
  read_sets (Err fault) reads m is = inr (is, λ that sets. not_ok (command_of line) reads sets.command)

-- ---- many lines

module _ (at : Setting) (s : ClientState) (lines : List (List ℕ)) where
  module _ (k : ℕ) (inside : k < length lines) (m : Manifest) where
    here : LineSets at (run_at at s lines k) (get_or lines k []) m → IsSetLast at s lines (k + 1) m
    here sets = record {
      j = k;
      before = omega arith;
      line = get_or lines k [];
      is_line = slice_get-get_or lines k [] inside;
      sets = sets;
      last = λ i other that later less is sets_that. absurd (omega (arith, later, less));
    }

    -- no line behind the j-th, up to the i-th, sets a manifest
    abbrev NoneAt : ℕ → ℕ → Type 0
    NoneAt j i = (other : List ℕ) (that : Manifest) → j < i → slice_get lines i ≡ Some other → LineSets at (run_at at s lines i) other that → ⊥

    still : IsSetLast at s lines k m → ((that : Manifest) → LineSets at (run_at at s lines k) (get_or lines k []) that → ⊥) → IsSetLast at s lines (k + 1) m
    still was none = record {
      j = was.j;
      before = omega (arith, was.before);
      line = was.line;
      is_line = was.is_line;
      sets = was.sets;
      last = λ i other that later less is sets. below_more (NoneAt was.j) k (λ n below o t after_j is_o sets_o. was.last n o t after_j below is_o sets_o)
          (λ o t after_j is_o sets_o. none t (subst (λ (l : List ℕ). LineSets at (run_at at s lines k) l t) (some_one (sym is_o ∙ slice_get-get_or lines k [] inside)) sets_o)) i less other that later is sets;
    }

    one_more : ((m : Manifest) → (run_at at s lines k).session.manifest ≡ Some m → IsSetLast at s lines k m) → (run_at at s lines (k + 1)).session.manifest ≡ Some m → IsSetLast at s lines (k + 1) m
    unfolding run_after
    one_more was is =
        ⊎_elim here (λ stayed. still (was m stayed.0) stayed.1)
        (read_sets at (run_at at s lines k) (get_or lines k []) (command_of (get_or lines k [])) refl m
        (subst (λ (run : RunState). run.session.manifest ≡ Some m) (run-more at s lines k (get_or lines k []) inside (take_more lines k [] inside)) is))

  -- the manifest of a session is the one that was set last
  pub set_last : (k : ℕ) → k ≤ length lines → (m : Manifest) → (run_at at s lines k).session.manifest ≡ Some m → IsSetLast at s lines k m
  set_last zero within m is = absurd (no_some is)
  set_last (suc k) within m is =
      let last : k + 1 ≡ suc k = omega arith in
      subst (λ (n : ℕ). IsSetLast at s lines n m) last
      (one_more k (omega (arith, within)) m (set_last k (omega (arith, within))) (subst (λ (n : ℕ). (run_at at s lines n).session.manifest ≡ Some m) (sym last) is))
