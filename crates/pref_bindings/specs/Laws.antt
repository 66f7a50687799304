-- Laws of the definitions alone.
use Rattle.std.specs.Prelude.{◌≡◌, ℕ, true, false, List, Option, None, Some}
use Rattle.std.specs.List.{AllByRecursion}
use Rattle.json_tree.specs.declared.tree.Tree.{Tree}
use Rattle.enrol_states.specs.Order.{Rise}
use Rattle.pref_bindings.specs.declared.preference.Preference.{Preference}
use Rattle.pref_bindings.specs.Preferences.{IsSound, found, holder_of, names_of}
use Rattle.pref_bindings.specs.Changes.{Setting, is_held, holds, joined, left, set_by_user, user_map}
use Rattle.pref_bindings.specs.Rows.{rows_of}

-- sound preferences that have one list of rows are one
abbrev pub HasOneListOfRows : Type 0
HasOneListOfRows = (ps qs : List Preference) → IsSound ps → IsSound qs → rows_of ps ≡ rows_of qs → ps ≡ qs

abbrev pub HoldsNone : List ℕ → List Preference → Type 0
HoldsNone slug ps = AllByRecursion (λ p. holds slug p.hold ≡ false) ps

-- A join and then a leave of a slug that held no preference change nothing.
abbrev pub LeaveUndoesJoin : Type 0
LeaveUndoesJoin = (slug : List ℕ) (vs : List Setting) (ps : List Preference) → HoldsNone slug ps → left slug (joined slug vs ps) ≡ ps

-- a join doesn't change the user's map
abbrev pub JoinKeepsUserMap : Type 0
JoinKeepsUserMap = (slug : List ℕ) (vs : List Setting) (ps : List Preference) → user_map (joined slug vs ps) ≡ user_map ps

-- nor does a leave
abbrev pub LeaveKeepsUserMap : Type 0
LeaveKeepsUserMap = (slug : List ℕ) (ps : List Preference) → user_map (left slug ps) ≡ user_map ps

-- what the user sets or takes away is set or taken away in the user's map, where nobody holds the name
abbrev pub UserSetsOwn : Type 0
UserSetsOwn =
    (name : List ℕ) (value : Option Tree) (ps : List Preference) → Rise (names_of ps) → holder_of name ps ≡ None
    → user_map (set_by_user name value ps) ≡ set_by_user name value (user_map ps)

-- ---- held preferences

-- the preference stands under its name, and somebody holds it
pub record IsHeldAmong (p : Preference) (ps : List Preference) : Type 0 where
  pub there : found p.name ps ≡ Some p
  pub held : is_held p.hold ≡ true

-- a join keeps each preference that is held, with the value that its holder's join set
abbrev pub JoinKeepsHeld : Type 0
JoinKeepsHeld = (slug : List ℕ) (vs : List Setting) (p : Preference) (ps : List Preference) → Rise (names_of ps) → IsHeldAmong p ps → IsHeldAmong p (joined slug vs ps)

-- so does a leave of a slug that isn't its holder
abbrev pub LeaveKeepsHeld : Type 0
LeaveKeepsHeld = (slug : List ℕ) (p : Preference) (ps : List Preference) → holds slug p.hold ≡ false → IsHeldAmong p ps → IsHeldAmong p (left slug ps)

-- and what the user sets or takes away of a name that nobody holds
abbrev pub SetKeepsHeld : Type 0
SetKeepsHeld = (name : List ℕ) (value : Option Tree) (p : Preference) (ps : List Preference) → holder_of name ps ≡ None → IsHeldAmong p ps → IsHeldAmong p (set_by_user name value ps)
