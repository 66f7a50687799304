-- The preferences, line by line and run by run.
use Rattle.std.proofs.Common.{◌≡◌, ℕ, Bool, true, false, List, [], ◌∷◌, ◌++◌, take, inl, inr, refl, sym, ◌∙◌, ap, ap₂, subst, append_assoc, Option, Some, None, Result, Ok, Err}
use Rattle.std.specs.Prelude.{Contains, if◌then◌else◌}
use Rattle.std.specs.List.{AllByRecursion}
use Rattle.std.specs.List.Sorted.{IsStrictlySortedBy}
use Rattle.std.proofs.lemmas.List.{append-nil}
use Rattle.std.proofs.lemmas.List.Elements.{All-contains_itself, recursion_from_All}
use Rattle.enrol_states.specs.Order.{Rise}
use Rattle.change_outbox.specs.Changes.{changes_between}
use Rattle.change_outbox.specs.declared.change.Change.{Change}
use Rattle.change_outbox.specs.declared.change.ChangeKind.TheVariants.{Join}
use Rattle.pref_bindings.specs.Changes.{Setting, user_map, users_part}
use Rattle.pref_bindings.specs.Preferences.{names_of}
use Rattle.pref_bindings.specs.declared.preference.Hold.{Hold}
use Rattle.pref_bindings.specs.declared.preference.Preference.{Preference}
use Rattle.client_state.specs.Following.{changes_done, join_values, leaves_done}
use Rattle.client_state.specs.Sound.{HasEnrolledHolder, HaveEnrolledHolders}
use Rattle.client_state.specs.declared.client_state.ClientState.{ClientState}
use Rattle.client_words.specs.declared.command.Command.{Command}
use Rattle.client_words.specs.declared.command.Command.TheVariants as commands
use Rattle.client_words.specs.declared.line.LineFault.{LineFault}
use Rattle.client_words.specs.Commands.{command_of}
use Rattle.client_steps.specs.EventSteps.{is_okay}
use Rattle.client_steps.specs.PreferenceSteps.{set_after, HasHolders}
use Rattle.client_steps.specs.Settings.{Setting as Moment}
use Rattle.client_store.specs.Store.{KeptFor}
use Rattle.client_steps.specs.Steps.{step}
use Rattle.client_steps.proofs.PreferenceSteps.{preferences_follow}
use Rattle.session_run.specs.Chains.{Link, IsChain, EndsKept, folded}
use Rattle.session_run.specs.Histories.{Turn, turned, turns_of, history, done_in, command_done}
use Rattle.session_run.specs.OutboxChains.{changes_by}
use Rattle.session_run.specs.PreferenceChains.{users_after, users_over, values_at, JoinsWith, NoneLeaves, IsSetByJoin, AreSetByJoins, TakesPartInNone}
use Rattle.session_run.specs.Steps.{RunState, begun, effect, run_after, all_after, after}
use Rattle.session_run.proofs.Chaining.{ends_kept, folded_sound, one_end}
use Rattle.session_run.proofs.HeldPreferences.{HeldAre, JoinSets, Sets, held_more, joins_held, leaves_held, user_held}
use Rattle.session_run.proofs.Outboxes.{none_between}

-- ---- the user's map

set_where : (command : Command) (okay : Bool) (ps : List Preference) → set_after command okay ps ≡ users_after (if okay then Some command else None) ps
set_where (commands.SetPreference name value) true ps = refl
set_where (commands.SetPreference name value) false ps = refl
set_where (commands.ClearPreference name) true ps = refl
set_where (commands.ClearPreference name) false ps = refl
set_where command true ps = refl
set_where command false ps = refl

-- these are preferences of a state, and this is their user's map
record HasMap (s : ClientState) (map : List Preference) : Type 0 where
  has : HasHolders s
  is : user_map s.preferences ≡ map

module _ (at : Moment) (run : RunState) (map : List Preference) (has : HasMap run.state map) where
  read_map : (read : Result Command LineFault) → HasMap (effect at run read).state (users_after (done_in at run read) map)
  read_map (Ok command) =
      let okay = is_okay (step at run.state run.session command).answer in
      record {
        has = preferences_follow.holders at run.state run.session command has.has;
        is = preferences_follow.user_map at run.state run.session command has.has ∙ ap (set_after command okay) has.is ∙ set_where command okay map;
      }
  read_map (Err fault) = has

  line_map : (line : List ℕ) → HasMap (run_after at run line).state (users_after (command_done (record { at = at; run = run; line = line })) map)
  unfolding run_after command_done
  line_map line = read_map (command_of line)

lines_map : (at : Moment) (run : RunState) (lines : List (List ℕ)) (map : List Preference) → HasMap run.state map → HasMap (all_after at run lines).state (users_over (turns_of at run lines) map)
lines_map at run [] map has = has
lines_map at run (line ∷ lines) map has =
    lines_map at (run_after at run line) lines (users_after (command_done (record { at = at; run = run; line = line })) map) (line_map at run map has line)

users_over-append : (turns more : List Turn) (ps : List Preference) → users_over (turns ++ more) ps ≡ users_over more (users_over turns ps)
users_over-append [] more ps = refl
users_over-append (turn ∷ turns) more ps = users_over-append turns more (users_after (command_done turn) ps)

runs_map : (s : ClientState) (links : List Link) (map : List Preference) → HasMap s map → HasMap (folded s links) (users_over (history s links) map)
runs_map s [] map has = has
runs_map s (link ∷ links) map has =
    let turns = turns_of link.at (begun s) (take link.k link.lines) in
    let next = after link.at s link.lines link.k in
    subst (HasMap (folded next links)) (sym (users_over-append turns (history next links) map))
    (runs_map next links (users_over turns map) (lines_map link.at (begun s) (take link.k link.lines) map has))

-- a state without preferences
none_has : (s : ClientState) → s.preferences ≡ [] → HasMap s []
unfolding IsStrictlySortedBy
none_has s none = record {
  has = record { names = subst (λ (ps : List Preference). Rise (names_of ps)) (sym none) tt; holders = subst (HaveEnrolledHolders s.enrolment) (sym none) tt };
  is = ap user_map none;
}

-- ---- joins

all_push : (P : Turn → Type 0) (turns : List Turn) (turn : Turn) → AllByRecursion P turns → P turn → AllByRecursion P (turns ++ turn ∷ [])
all_push P [] turn are is = (is, tt)
all_push P (first ∷ turns) turn are is = (are.0, all_push P turns turn are.1 is)

set_longer : (turns : List Turn) (turn : Turn) (slug : List ℕ) (setting : Setting) → IsSetByJoin turns slug setting → NoneLeaves slug (changes_by turn) → IsSetByJoin (turns ++ turn ∷ []) slug setting
set_longer [] turn slug setting set none = absurd set
set_longer (first ∷ turns) turn slug setting (inl here) none = inl (here.0, all_push (λ later. NoneLeaves slug (changes_by later)) turns turn here.1 none)
set_longer (first ∷ turns) turn slug setting (inr behind) none = inr (set_longer turns turn slug setting behind none)

set_last : (turns : List Turn) (turn : Turn) (slug : List ℕ) (setting : Setting) → JoinsWith turn slug setting → IsSetByJoin (turns ++ turn ∷ []) slug setting
set_last [] turn slug setting joins = inl (joins, tt)
set_last (first ∷ turns) turn slug setting joins = inr (set_last turns turn slug setting joins)

-- what holds of each of these, and follows from its being one of them
among : {X : Type 0} (xs : List X) → AllByRecursion (Contains xs) xs
among xs = recursion_from_All (Contains xs) xs (All-contains_itself xs)

each_more : {X : Type 0} (P Q : X → Type 0) (xs : List X) → ((x : X) → P x → Q x) → AllByRecursion P xs → AllByRecursion Q xs
each_more P Q [] follows are = tt
each_more P Q (x ∷ xs) follows are = (follows x are.0, each_more P Q xs follows are.1)

-- what the line makes of the preferences
record FollowsLine (turn : Turn) : Type 0 where
  command : Command
  okay : Bool
  are : (turned turn).state.preferences ≡ set_after command okay (changes_done (values_at turn) (changes_by turn) turn.run.state.preferences)

module _ (at : Moment) (run : RunState) where
  record FollowsRead (next : RunState) : Type 0 where
    command : Command
    okay : Bool
    are : next.state.preferences
        ≡ set_after command okay (changes_done (join_values run.session.manifest run.session.bindings next.state.enrolment) (changes_between run.state.enrolment.rows next.state.enrolment.rows) run.state.preferences)

  read_follows : (read : Result Command LineFault) → FollowsRead (effect at run read)
  read_follows (Ok command) = record {
    command = command;
    okay = is_okay (step at run.state run.session command).answer;
    are = preferences_follow.preferences at run.state run.session command;
  }
  read_follows (Err fault) = record {
    command = commands.Show;
    okay = false;
    are = sym (ap (λ (cs : List Change). changes_done (join_values run.session.manifest run.session.bindings run.state.enrolment) cs run.state.preferences) (none_between run.state.enrolment.rows));
  }

  line_follows : (line : List ℕ) → FollowsRead (run_after at run line)
  unfolding run_after
  line_follows line = read_follows (command_of line)

turn_follows : (turn : Turn) → FollowsLine turn
turn_follows turn = let follows = line_follows turn.at turn.run turn.line in record { command = follows.command; okay = follows.okay; are = follows.are }

user_sets : (P : Preference → List ℕ → Type 0) (command : Command) (okay : Bool) (ps : List Preference) → HeldAre P ps → HeldAre P (set_after command okay ps)
user_sets P (commands.SetPreference name value) true ps are = user_held P name (Some value) ps are
user_sets P (commands.ClearPreference name) true ps are = user_held P name None ps are
user_sets P command okay ps are = are

module _ (turns : List Turn) (turn : Turn) where
  -- it has the value that its holder's join set, in one of these lines or in this one
  abbrev IsSet : Preference → List ℕ → Type 0
  IsSet p slug = IsSetByJoin (turns ++ turn ∷ []) slug (p.name, p.value)

  value_set : (join : Change) → Contains (changes_by turn) join → join.kind ≡ Join → (setting : Setting) → Contains (values_at turn join) setting → Sets IsSet join.slug setting
  value_set join made joins setting one before = set_last turns turn join.slug setting (record { join = join; made = made; kind = joins; joins = refl; sets = one })

  join_sets : (join : Change) → Contains (changes_by turn) join → JoinSets IsSet (values_at turn) join
  join_sets join made joins = each_more (Contains (values_at turn join)) (Sets IsSet join.slug) (values_at turn join) (value_set join made joins) (among (values_at turn join))

  set_in_line : AreSetByJoins turns turn.run.state.preferences → AreSetByJoins (turns ++ turn ∷ []) (turned turn).state.preferences
  set_in_line are =
      let ps = turn.run.state.preferences in
      let cs = changes_by turn in
      let follows = turn_follows turn in
      let left = leaves_held (λ p slug. IsSetByJoin turns slug (p.name, p.value)) cs ps are in
      let kept = held_more (λ p slug. IsSetByJoin turns slug (p.name, p.value) × NoneLeaves slug cs) IsSet (λ p slug held. set_longer turns turn slug (p.name, p.value) held.0 held.1) (leaves_done cs ps) left in
      let joined = joins_held IsSet (values_at turn) cs (leaves_done cs ps) (each_more (Contains cs) (JoinSets IsSet (values_at turn)) cs join_sets (among cs)) kept in
      subst (AreSetByJoins (turns ++ turn ∷ [])) (sym follows.are) (user_sets IsSet follows.command follows.okay (changes_done (values_at turn) cs ps) joined)

-- lines behind these
lines_set : (turns : List Turn) (at : Moment) (run : RunState) (lines : List (List ℕ)) → AreSetByJoins turns run.state.preferences → AreSetByJoins (turns ++ turns_of at run lines) (all_after at run lines).state.preferences
lines_set turns at run [] are = subst (λ (ts : List Turn). AreSetByJoins ts run.state.preferences) (sym (append-nil turns)) are
lines_set turns at run (line ∷ lines) are =
    let turn : Turn = record { at = at; run = run; line = line } in
    let next = run_after at run line in
    subst (λ (ts : List Turn). AreSetByJoins ts (all_after at next lines).state.preferences) (append_assoc turns (turn ∷ []) (turns_of at next lines)) (lines_set (turns ++ turn ∷ []) at next lines (set_in_line turns turn are))

runs_set : (turns : List Turn) (s : ClientState) (links : List Link) → AreSetByJoins turns s.preferences → AreSetByJoins (turns ++ history s links) (folded s links).preferences
runs_set turns s [] are = subst (λ (ts : List Turn). AreSetByJoins ts s.preferences) (sym (append-nil turns)) are
runs_set turns s (link ∷ links) are =
    let now = turns_of link.at (begun s) (take link.k link.lines) in
    let next = after link.at s link.lines link.k in
    subst (λ (ts : List Turn). AreSetByJoins ts (folded next links).preferences) (append_assoc turns now (history next links)) (runs_set (turns ++ now) next links (lines_set turns link.at (begun s) (take link.k link.lines) are))

-- ---- where the client takes part in no recipe

module _ (s : ClientState) (none : TakesPartInNone s) where
  free_part : (p : Preference) (h : Option Hold) → p.hold ≡ h → HasEnrolledHolder s.enrolment h → users_part p h ≡ p ∷ []
  free_part p None is hold = refl
  free_part p (Some h) is hold = absurd (none h.holder hold)

  all_the_users : (ps : List Preference) → HaveEnrolledHolders s.enrolment ps → user_map ps ≡ ps
  all_the_users [] hold = refl
  all_the_users (p ∷ ps) hold = ap₂ (λ (x y : List Preference). x ++ y) (free_part p p.hold refl hold.0) (all_the_users ps hold.1)

-- ---- over chains

module _ (l r : List ℕ) (s t : ClientState) (links : List Link) (keeps : KeptFor l r s) (chain : IsChain l r links) (ends : EndsKept l r links t) where
  the_end : t ≡ folded s links
  the_end = one_end links l r t (folded s links) ends (ends_kept links l r s keeps chain)

  pub holders_take_part : HaveEnrolledHolders t.enrolment t.preferences
  holders_take_part = subst (λ (x : ClientState). HaveEnrolledHolders x.enrolment x.preferences) (sym the_end) (folded_sound links l r s keeps chain).consistent.holders

  module _ (none : s.preferences ≡ []) where
    pub user_map_is_kept : user_map t.preferences ≡ users_over (history s links) []
    user_map_is_kept = ap (λ (x : ClientState). user_map x.preferences) the_end ∙ (runs_map s links [] (none_has s none)).is

    pub held_are_set : AreSetByJoins (history s links) t.preferences
    held_are_set = subst (λ (x : ClientState). AreSetByJoins (history s links) x.preferences) (sym the_end) (runs_set [] s links (subst (AreSetByJoins []) (sym none) tt))

    pub are_the_users : TakesPartInNone t → t.preferences ≡ users_over (history s links) []
    are_the_users none = sym (all_the_users t none t.preferences holders_take_part) ∙ user_map_is_kept
