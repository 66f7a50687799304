-- Whose the preferences are after a chain of runs: the user's, but for those that enrolments hold.
use Rattle.std.specs.Prelude.{◌≡◌, ◌⊎◌, ℕ, List, [], ◌∷◌, Contains, Option, None, Some, ⊤}
use Rattle.std.specs.List.{AllByRecursion}
use Rattle.change_outbox.specs.declared.change.Change.{Change}
use Rattle.change_outbox.specs.declared.change.ChangeKind.TheVariants.{Join, Leave}
use Rattle.pref_bindings.specs.Changes.{Setting, set_by_user, user_map}
use Rattle.pref_bindings.specs.declared.preference.Hold.{Hold}
use Rattle.pref_bindings.specs.declared.preference.Preference.{Preference}
use Rattle.client_state.specs.Following.{join_values}
use Rattle.client_state.specs.Sound.{IsEnrolled, HaveEnrolledHolders}
use Rattle.client_state.specs.declared.client_state.ClientState.{ClientState}
use Rattle.client_words.specs.declared.command.Command.{Command}
use Rattle.client_words.specs.declared.command.Command.TheVariants as commands
use Rattle.client_store.specs.Store.{KeptFor}
use Rattle.session_run.specs.Chains.{Link, IsChain, EndsKept}
use Rattle.session_run.specs.Histories.{Turn, turned, command_done, history}
use Rattle.session_run.specs.OutboxChains.{changes_by}

-- ---- the user's map

-- the user's map after a command: `set-pref` sets a value, and `clear-pref` takes it away
abbrev pub set_by : Command → List Preference → List Preference
set_by (commands.SetPreference name value) ps = set_by_user name (Some value) ps
set_by (commands.ClearPreference name) ps = set_by_user name None ps
set_by command ps = ps

-- where one was answered `ok`
abbrev pub users_after : Option Command → List Preference → List Preference
users_after None ps = ps
users_after (Some command) ps = set_by command ps

-- the user's map after these lines
abbrev pub users_over : List Turn → List Preference → List Preference
users_over [] ps = ps
users_over (turn ∷ turns) ps = users_over turns (users_after (command_done turn) ps)

-- ---- what enrolments set

-- what a join of the line sets
abbrev pub values_at : Turn → Change → List Setting
values_at turn join = join_values turn.run.session.manifest turn.run.session.bindings (turned turn).state.enrolment join

-- the line makes a join of the slug, which sets this
pub record JoinsWith (turn : Turn) (slug : List ℕ) (setting : Setting) : Type 0 where
  pub join : Change
  pub made : Contains (changes_by turn) join
  pub kind : join.kind ≡ Join
  pub joins : join.slug ≡ slug
  pub sets : Contains (values_at turn join) setting

-- none of these changes is a leave of the slug
abbrev pub NoneLeaves : List ℕ → List Change → Type 0
NoneLeaves slug changes = AllByRecursion (λ change. change.kind ≡ Leave → change.slug ≡ slug → ⊥) changes

-- a join of the slug sets this in one of these lines, and no line behind that makes a leave of the slug
abbrev pub IsSetByJoin : List Turn → List ℕ → Setting → Type 0
IsSetByJoin [] slug setting = ⊥
IsSetByJoin (turn ∷ turns) slug setting =
    (JoinsWith turn slug setting × AllByRecursion (λ later. NoneLeaves slug (changes_by later)) turns) ⊎ IsSetByJoin turns slug setting

-- it holds of the holder, where there is one
abbrev pub OfHolder : (List ℕ → Type 0) → Option Hold → Type 0
OfHolder P None = ⊤
OfHolder P (Some hold) = P hold.holder

-- each preference that is held has the value that its holder's join set in one of these lines
abbrev pub AreSetByJoins : List Turn → List Preference → Type 0
AreSetByJoins turns ps = AllByRecursion (λ p. OfHolder (λ slug. IsSetByJoin turns slug (p.name, p.value)) p.hold) ps

-- ---- over chains

-- After any runs from a store without preferences, the user's map of the last pair's preferences is what the lines that counted set and took
-- away. In place of each that is held it has the value of before.
abbrev pub UserMapIsKept : Type 0
UserMapIsKept =
    (l r : List ℕ) (s t : ClientState) (links : List Link) → KeptFor l r s → IsChain l r links → s.preferences ≡ [] → EndsKept l r links t
    → user_map t.preferences ≡ users_over (history s links) []

-- Each preference that is held then has the value that its holder's join set.
abbrev pub HeldAreSetByJoins : Type 0
HeldAreSetByJoins =
    (l r : List ℕ) (s t : ClientState) (links : List Link) → KeptFor l r s → IsChain l r links → s.preferences ≡ [] → EndsKept l r links t
    → AreSetByJoins (history s links) t.preferences

-- Whoever holds one then, the client takes part in the holder's recipe, also where the store had preferences.
abbrev pub HoldersTakePart : Type 0
HoldersTakePart =
    (l r : List ℕ) (s t : ClientState) (links : List Link) → KeptFor l r s → IsChain l r links → EndsKept l r links t
    → HaveEnrolledHolders t.enrolment t.preferences

-- the client takes part in no recipe
abbrev pub TakesPartInNone : ClientState → Type 0
TakesPartInNone s = (slug : List ℕ) → IsEnrolled s.enrolment slug → ⊥

-- So where it takes part in none then, the preferences are what the lines that counted set and took away.
abbrev pub AreTheUsers : Type 0
AreTheUsers =
    (l r : List ℕ) (s t : ClientState) (links : List Link) → KeptFor l r s → IsChain l r links → s.preferences ≡ [] → EndsKept l r links t
    → TakesPartInNone t → t.preferences ≡ users_over (history s links) []
