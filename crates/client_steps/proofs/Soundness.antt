-- A step keeps a state sound and a session lawful, and so do many.
use Rattle.std.proofs.Common.{◌≡◌, ◌≤◌, ℕ, Bool, true, false, List, [], ◌∷◌, length, Option, Some, None, Result, IsTrue, refl, sym, subst}
use Rattle.std.specs.Prelude.{All, nat_lt, if◌then◌else◌}
use Rattle.std.proofs.lemmas.Bool.{leb-false, ltb-false}
use Rattle.std.proofs.lemmas.List.Elements.{All-head, All-tail}
use Rattle.json_tree.specs.Json.{Json}
use Rattle.json_tree.specs.declared.tree.Tree.{Tree}
use Rattle.plain_text.specs.Names.{is_name}
use Rattle.recipe_reader.specs.Kinds.{kind_of}
use Rattle.recipe_reader.specs.Payloads.{recipe_with}
use Rattle.recipe_reader.specs.declared.recipe.Recipe.{Recipe}
use Rattle.app_context.specs.declared.context.Context.{Context}
use Rattle.enrol_evolver.proofs.Consistency.{evolved}
use Rattle.pref_bindings.specs.Changes.{set_by_user}
use Rattle.pref_bindings.specs.Preferences as preference_lists
use Rattle.pref_bindings.specs.declared.preference.Preference.{Preference}
use Rattle.enrol_states.specs.Choices.{has_no_room}
use Rattle.event_counts.specs.Sound as counts
use Rattle.event_counts.specs.declared.name_counts.NameCounts.{NameCounts}
use Rattle.event_counts.proofs.Soundness.{sound_none}
use Rattle.client_state.specs.declared.client_state.ClientState.{ClientState}
use Rattle.enrol_states.specs.Commands.{after_opt_out, enrolment_ended}
use Rattle.enrol_states.specs.Consistent as states
use Rattle.enrol_states.specs.Participation.{takes_part}
use Rattle.enrol_states.specs.Recipes.{has_branch}
use Rattle.enrol_states.specs.Statuses.{last_moment, IsSlug}
use Rattle.enrol_states.proofs.Enrolments as enrolments
use Rattle.enrol_states.proofs.Fresh.{reset-consistent}
use Rattle.enrol_states.proofs.OptOuts as opt_outs
use Rattle.enrol_states.proofs.Participations as participations
use Rattle.client_state.specs.Following.{changes_from, join_values}
use Rattle.client_state.specs.Sound.{max_size, HaveEnrolledHolders, HaveRecords, IsConsistent, IsSound}
use Rattle.client_state.specs.Encoding.{encoding}
use Rattle.client_state.proofs.HoldersAfter.{holders_after, holders_set}
use Rattle.fml_types.specs.Coenrolling.{coenrolling}
use Rattle.fml_types.specs.declared.manifest.Manifest.{Manifest}
use Rattle.client_words.specs.declared.answer.Answer.{Answer}
use Rattle.client_words.specs.declared.answer.Answer.TheVariants.{Okay}
use Rattle.client_words.specs.declared.refusal.Refusal.{Refusal}
use Rattle.client_words.specs.declared.refusal.Refusal.TheVariants.{OptedOutLimit, NotParticipating, NoSuchBranch, StateTooLarge}
use Rattle.client_words.specs.declared.command.Command.{Command}
use Rattle.client_words.specs.declared.command.Command.TheVariants.{Fetch, Apply, Participate, OptOut, OptIn, Reset, Event, Confirm, SetPreference, ClearPreference}
use Rattle.client_steps.specs.declared.session.Session.{Session}
use Rattle.client_steps.specs.Choosing.{first_taker}
use Rattle.client_steps.specs.EventSteps.{is_okay}
use Rattle.client_steps.specs.Fetching.{file_tree}
use Rattle.client_steps.specs.PreferenceSteps.{set_after}
use Rattle.client_steps.specs.Settings.{Setting}
use Rattle.client_steps.specs.Soundness.{HasVersion, HasLinked, IsSession, IsLawful, Line, IsLine, all_after, HasConsistentParts, StepsStaySound}
use Rattle.client_words.specs.Commands.{IsCommand}
use Rattle.client_steps.specs.Steps.{EnrolmentOutcome, Outcome, Accepted, Refused, Step, preferences_with, whole, enrolling, seeing, counting, confirming, preferring, participation, opting_out, taking, offering, choosing, opting_in, resetting, fetching, applying, outcome, done, step, unchanged}
use Rattle.client_steps.proofs.Coenrolling.{coenrolling_names, coenrolling_rise}
use Rattle.client_steps.proofs.CountedEvents.{counted_sound}
use Rattle.client_steps.proofs.JoinValues.{join_sets}
use Rattle.client_steps.proofs.KeptRecords.{step_keeps_records}
use Rattle.client_steps.proofs.Lawfulness.{step_keeps_texts, step_keeps_lawful, lawful_texts}
use Rattle.client_steps.proofs.Payloads.{payload_kept}
use Rattle.client_steps.proofs.Outboxes.{appended_is_sound, changes_slugs, confirmed_is_sound}
use Rattle.client_steps.proofs.PreferenceSteps.{preferences_follow}
use Rattle.client_steps.proofs.FollowedPreferences.{done_sound, users_sound}
use Rattle.client_steps.proofs.EnrolmentOutcomes.{fetching_either}
use Rattle.client_steps.proofs.Outcomes.{either_step, leaving_either, counting_either, confirming_either}
use Rattle.client_steps.proofs.Stepping.{pending_consistent, preferring_either, whole_either}
use Rattle.client_steps.proofs.Takers.{free_where}

-- ---- the parts that follow nothing of what recipes hold

module _ (at : Setting) (s : ClientState) (session : Session) (c : HasConsistentParts s) where
  -- an accepted state has consistent parts
  abbrev Keeps : Outcome → Type 0
  Keeps (Accepted t next answer) = HasConsistentParts t
  Keeps (Refused refusal) = Unit {0}

  -- and so is an accepted enrolment
  abbrev KeepsEnrolment : EnrolmentOutcome → Type 0
  KeepsEnrolment (Accepted e next answer) = states.IsConsistent e
  KeepsEnrolment (Refused refusal) = Unit {0}

  whole-keeps : (ns : List NameCounts) → counts.IsSound ns → (asked : EnrolmentOutcome) → KeepsEnrolment asked → Keeps (whole s session ns asked)
  whole-keeps ns sound (Accepted e next answer) keeps =
      whole_either Keeps s session ns e next answer tt (λ fits. record { enrolment = keeps; events = sound; outbox = appended_is_sound s.enrolment e s.outbox c.enrolment keeps c.outbox fits })
  whole-keeps ns sound (Refused refusal) keeps = tt

  done-keeps : (asked : Outcome) → Keeps asked → HasConsistentParts (done s session asked).state
  done-keeps (Accepted t next answer) keeps = either_step (λ to. HasConsistentParts to.state) (nat_lt max_size (length (encoding t))) _ _ c keeps
  done-keeps (Refused refusal) keeps = c

  fetch-keeps : (read : Result Json Refusal) → KeepsEnrolment (fetching s.enrolment session read)
  fetch-keeps read = fetching_either s.enrolment session KeepsEnrolment (λ refusal. tt) read (λ tree found is loads. pending_consistent s.enrolment found.recipes c.enrolment (payload_kept tree found loads))

  apply-keeps : at.now ≤ last_moment → (manifest : Option Manifest) → HasLinked manifest → (context : Option Context) → HasVersion context → KeepsEnrolment (applying at.now s.enrolment session manifest context)
  apply-keeps moment None linked context text = tt
  apply-keeps moment (Some manifest) linked None text = tt
  apply-keeps moment (Some manifest) linked (Some context) text =
      evolved s.enrolment context (coenrolling manifest.features) at.now c.enrolment (coenrolling_names manifest.features linked.sound.names) (coenrolling_rise manifest.features linked.order) moment text

  seen-version : (context : Option Context) → HasVersion context → HasVersion (seeing at.now s.events context)
  seen-version None text = tt
  seen-version (Some context) text = text

  out-keeps : (slug : List ℕ) → IsSlug slug → (full : Bool) → has_no_room s.enrolment.opted_out slug ≡ full → KeepsEnrolment (if full then Refused OptedOutLimit else Accepted (after_opt_out s.enrolment slug) session Okay)
  out-keeps slug is_slug true e = tt
  out-keeps slug is_slug false e = opt_outs.consistent s.enrolment slug is_slug e c.enrolment

  module _ (slug branch : List ℕ) (is_slug : IsSlug slug) (is_branch : IsSlug branch) where
    module _ (r : Recipe) (found : recipe_with slug s.enrolment.live ≡ Some r) (on : takes_part s.enrolment (kind_of r) ≡ true) where
      taking-keeps : has_branch r branch ≡ true → (taker : Option (List ℕ × List ℕ)) → first_taker s.enrolment r s.enrolment.rows ≡ taker → KeepsEnrolment (taking s.enrolment session slug branch taker)
      taking-keeps has None free = enrolments.consistent s.enrolment slug branch r is_slug is_branch (record { recipe = found; participating = on; offered = has }) (free_where s.enrolment r free) c.enrolment
      taking-keeps has (Some taker) taken = tt

      branch-keeps : (has : Bool) → has_branch r branch ≡ has → KeepsEnrolment (if has then taking s.enrolment session slug branch (first_taker s.enrolment r s.enrolment.rows) else Refused NoSuchBranch)
      branch-keeps true has = taking-keeps has (first_taker s.enrolment r s.enrolment.rows) refl
      branch-keeps false has = tt

    part-keeps : (r : Recipe) → recipe_with slug s.enrolment.live ≡ Some r → (on : Bool) → takes_part s.enrolment (kind_of r) ≡ on → KeepsEnrolment (if on then offering s.enrolment session slug branch r else Refused NotParticipating)
    part-keeps r found true on = branch-keeps r found on (has_branch r branch) refl
    part-keeps r found false on = tt

    choosing-keeps : (found : Option Recipe) → recipe_with slug s.enrolment.live ≡ found → KeepsEnrolment (choosing s.enrolment session slug branch found)
    choosing-keeps None e = tt
    choosing-keeps (Some r) e = part-keeps r e (takes_part s.enrolment (kind_of r)) refl

  preferring-keeps : (name : List ℕ) (value : Option Tree) → Keeps (preferring s session name value)
  preferring-keeps name value =
      preferring_either Keeps s session name value tt (λ free. record { enrolment = c.enrolment; events = c.events; outbox = c.outbox })
      (λ holder held fits.
      let ended = opt_outs.ended_is_consistent s.enrolment holder c.enrolment in
      record { enrolment = ended; events = c.events; outbox = appended_is_sound s.enrolment (enrolment_ended holder s.enrolment) s.outbox c.enrolment ended c.outbox fits })

  enrolment-keeps : (asked : EnrolmentOutcome) → KeepsEnrolment asked → HasConsistentParts (done s session (enrolling s session asked)).state
  enrolment-keeps asked keeps = done-keeps (enrolling s session asked) (whole-keeps s.events c.events asked keeps)

  parts : (command : Command) → at.now ≤ last_moment → IsCommand command → IsSession session → HasConsistentParts (step at s session command).state
  unfolding step
  parts (Fetch file) moment is texts = enrolment-keeps (fetching s.enrolment session (file_tree file (at.files file))) (fetch-keeps (file_tree file (at.files file)))
  parts Apply moment is texts =
      let seen = seeing at.now s.events session.context in
      enrolment-keeps (applying at.now s.enrolment session session.manifest seen) (apply-keeps moment session.manifest texts.manifest seen (seen-version session.context texts.context))
  parts (Participate kinds on) moment is texts = enrolment-keeps (participation s.enrolment session kinds on) (participations.consistent s.enrolment kinds on c.enrolment)
  parts (OptOut slug) moment is texts = enrolment-keeps (opting_out s.enrolment session slug) (out-keeps slug is (has_no_room s.enrolment.opted_out slug) refl)
  parts (OptIn slug branch) moment is texts = enrolment-keeps (opting_in s.enrolment session slug branch) (choosing-keeps slug branch is.0 is.1 (recipe_with slug s.enrolment.live) refl)
  parts (Reset id) moment is texts =
      done-keeps (whole s session [] (resetting s.enrolment session id)) (whole-keeps [] (sound_none [] refl) (resetting s.enrolment session id) (reset-consistent s.enrolment id is c.enrolment))
  parts (SetPreference name value) moment is texts = done-keeps (preferring s session name (Some value)) (preferring-keeps name (Some value))
  parts (ClearPreference name) moment is texts = done-keeps (preferring s session name None) (preferring-keeps name None)
  parts (Event name count) moment is texts =
      done-keeps (counting at.now s session name count)
      (counting_either at s session Keeps (λ refusal. tt) name count (λ room. record { enrolment = c.enrolment; events = counted_sound name count at.now s.events c.events is.name moment room; outbox = c.outbox }))
  parts (Confirm number) moment is texts =
      done-keeps (confirming s session number)
      (confirming_either at s session Keeps (λ refusal. tt) number (λ known. record { enrolment = c.enrolment; events = c.events; outbox = confirmed_is_sound s.outbox number c.outbox (leb-false s.outbox.next number known) }))
  parts command moment is texts = done-keeps (outcome at s session command) (leaving_either at s session Keeps (λ refusal. tt) (λ next answer. c) command tt)

-- ---- the preferences

-- what preferences keep where the user's value is set or taken away, they keep by a command
module _ (P : List Preference → Type 0) (ps : List Preference) (was : P ps) (sets : (name : List ℕ) (value : Option Tree) → IsTrue (is_name name) → preference_lists.IsValueOrNone value → P (set_by_user name value ps)) where
  set_if : (name : List ℕ) (value : Option Tree) (command : Command) (is_done : Bool) → P (set_by_user name value ps) → set_after command true ps ≡ set_by_user name value ps → set_after command false ps ≡ ps → P (set_after command is_done ps)
  set_if name value command true is set leaves = subst P (sym set) is
  set_if name value command false is set leaves = subst P (sym leaves) was

  set_keeps : (command : Command) → IsCommand command → (is_done : Bool) → P (set_after command is_done ps)
  set_keeps (SetPreference name value) is is_done = set_if name (Some value) (SetPreference name value) is_done (sets name (Some value) is.0 is.1) refl refl
  set_keeps (ClearPreference name) is is_done = set_if name None (ClearPreference name) is_done (sets name None is tt) refl refl
  set_keeps command is is_done = was

module _ (at : Setting) (s : ClientState) (session : Session) (c : IsConsistent s) (records : HaveRecords s.enrolment) where
  consistent : (command : Command) → at.now ≤ last_moment → IsCommand command → IsSession session → IsConsistent (step at s session command).state
  consistent command moment is texts =
      let to = step at s session command in
      let e = to.state.enrolment in
      let rest : HasConsistentParts to.state = parts at s session (record { enrolment = c.enrolment; events = c.events; outbox = c.outbox }) command moment is texts in
      let values = join_values session.manifest session.bindings e in
      let ps = preferences_with session s.enrolment e s.preferences in
      let sets = join_sets session.manifest session.bindings e texts.bindings (step_keeps_records at s session records command) in
      let sound : preference_lists.IsSound ps = done_sound values sets (changes_from s.enrolment e) (changes_slugs s.enrolment e c.enrolment rest.enrolment) s.preferences c.preferences in
      let holders : HaveEnrolledHolders e ps = holders_after s.enrolment e values s.preferences c.holders in
      let same = preferences_follow.preferences at s session command in
      record {
        enrolment = rest.enrolment;
        events = rest.events;
        outbox = rest.outbox;
        preferences = subst preference_lists.IsSound (sym same) (set_keeps preference_lists.IsSound ps sound (λ name value named is_value. users_sound name value ps named is_value sound) command is (is_okay to.answer));
        holders = subst (λ (qs : List Preference). HaveEnrolledHolders e qs) (sym same)
            (set_keeps (λ (qs : List Preference). HaveEnrolledHolders e qs) ps holders (λ name value named is_value. holders_set e name value ps holders) command is (is_okay to.answer));
      }

-- ---- the size

small_at : (s t : ClientState) (session next : Session) (answer : Answer) (large : Bool) → nat_lt max_size (length (encoding t)) ≡ large → length (encoding s) ≤ max_size
    → let to : Step = if large then unchanged s session (StateTooLarge (length (encoding t))) else record { state = t; session = next; answer = answer } in
    length (encoding to.state) ≤ max_size
small_at s t session next answer true e small = small
small_at s t session next answer false e small = ltb-false max_size (length (encoding t)) e

small : (s : ClientState) (session : Session) (asked : Outcome) → length (encoding s) ≤ max_size → length (encoding (done s session asked).state) ≤ max_size
small s session (Accepted t next answer) most = small_at s t session next answer (nat_lt max_size (length (encoding t))) refl most
small s session (Refused refusal) most = most

size : (at : Setting) (s : ClientState) (session : Session) (command : Command) → length (encoding s) ≤ max_size → length (encoding (step at s session command).state) ≤ max_size
unfolding step
size at s session command most = small s session (outcome at s session command) most

-- ---- sound states and lawful sessions

one : (at : Setting) (s : ClientState) (session : Session) (command : Command) → at.now ≤ last_moment → IsCommand command → IsLawful session → IsSound s → IsSound (step at s session command).state × IsLawful (step at s session command).session
one at s session command moment is lawful sound = (
  record {
    consistent = consistent at s session sound.consistent sound.records command moment is (lawful_texts session lawful);
    records = step_keeps_records at s session sound.records command;
    size = size at s session command sound.size;
  },
  step_keeps_lawful at s session command lawful,
)

all : (s : ClientState) (session : Session) (lines : List Line) → All IsLine lines → IsLawful session → IsSound s → IsSound (all_after (s, session) lines).0 × IsLawful (all_after (s, session) lines).1
all s session [] are lawful sound = (sound, lawful)
all s session (line ∷ lines) are lawful sound =
    let is = All-head IsLine line lines are in
    let next = one line.0 s session line.1 is.0 is.1 lawful sound in
    let to = step line.0 s session line.1 in
    all to.state to.session lines (All-tail IsLine line lines are) next.1 next.0

pub steps_stay_sound : StepsStaySound
steps_stay_sound = record {
  one = one;
  all = all;
  session = step_keeps_lawful;
  begun = record { manifest = tt; context = tt; bindings = tt };
  consistent = λ at s session command moment is texts records c. consistent at s session c records command moment is texts;
  records = λ at s session command records. step_keeps_records at s session records command;
  parts = λ at s session command moment is texts c. parts at s session c command moment is texts;
  texts = step_keeps_texts;
  size = size;
}
