-- What a join, a leave and the user make of preferences, and what of them is the user's.
use Rattle.std.specs.Prelude.{ℕ, Bool, true, false, List, [], ◌∷◌, map, Option, Some, None, IsTrue, bytes_eq, if◌then◌else◌}
use Rattle.std.specs.List.{AllByRecursion, flat_map}
use Rattle.std.specs.Ordering.{match_ordering}
use Rattle.json_tree.specs.declared.tree.Tree.{Tree}
use Rattle.plain_text.specs.Names.{is_name}
use Rattle.recipe_reader.specs.Payloads.{slug_cmp}
use Rattle.enrol_states.specs.Order.{Rise}
use Rattle.pref_bindings.specs.declared.preference.Hold.{Hold}
use Rattle.pref_bindings.specs.declared.preference.Preference.{Preference}
use Rattle.pref_bindings.specs.Preferences.{IsValue}

-- ---- joining

-- a name that is to have a value
abbrev pub Setting : Type 0
Setting = List ℕ × Tree

pub record IsSetting (v : Setting) : Type 0 where
  pub name : IsTrue (is_name v.0)
  pub value : IsValue v.1

-- in order by name, so that no name stands twice
pub record AreSettings (vs : List Setting) : Type 0 where
  pub names : Rise (map (λ v. v.0) vs)
  pub each : AllByRecursion IsSetting vs

abbrev pub is_held : Option Hold → Bool
is_held None = false
is_held (Some h) = true

-- the preference that a slug sets and holds
abbrev pub held_by : List ℕ → Setting → Option Tree → Preference
held_by slug v before = record { name = v.0; value = v.1; hold = Some (record { holder = slug; before = before }) }

-- what a slug makes of a preference: one that is held stays
abbrev pub joined_at : List ℕ → Setting → Preference → Preference
joined_at slug v p = if is_held p.hold then p else held_by slug v (Some p.value)

-- the preferences where a slug sets one, which may have had no value
abbrev pub joined_one : List ℕ → Setting → List Preference → List Preference
joined_one slug v [] = held_by slug v None ∷ []
joined_one slug v (p ∷ ps) = match_ordering (slug_cmp v.0 p.name) (held_by slug v None ∷ p ∷ ps) (joined_at slug v p ∷ ps) (p ∷ joined_one slug v ps)

-- the preferences where a slug sets each of these
abbrev pub joined : List ℕ → List Setting → List Preference → List Preference
joined slug [] ps = ps
joined slug (v ∷ vs) ps = joined slug vs (joined_one slug v ps)

-- ---- leaving

-- a preference that its user set, where there is a value
abbrev pub set_value : List ℕ → Option Tree → List Preference
set_value name None = []
set_value name (Some v) = record { name = name; value = v; hold = None } ∷ []

-- the user's part of a preference: the value of before where it is held
abbrev pub users_part : Preference → Option Hold → List Preference
users_part p None = p ∷ []
users_part p (Some h) = set_value p.name h.before

abbrev pub holds : List ℕ → Option Hold → Bool
holds slug None = false
holds slug (Some h) = bytes_eq h.holder slug

-- what a leave of the slug makes of a preference: one that it holds gets the value of before, or none
abbrev pub restored : List ℕ → Preference → List Preference
restored slug p = if holds slug p.hold then users_part p p.hold else p ∷ []

abbrev pub left : List ℕ → List Preference → List Preference
left slug ps = flat_map (restored slug) ps

-- ---- the user

-- the user's map: the present values, and in place of each that is held the value of before
abbrev pub user_map : List Preference → List Preference
user_map ps = flat_map (λ p. users_part p p.hold) ps

-- the preferences with this one, in the place of the one of its name
abbrev pub with_preference : Preference → List Preference → List Preference
with_preference q [] = q ∷ []
with_preference q (p ∷ ps) = match_ordering (slug_cmp q.name p.name) (q ∷ p ∷ ps) (q ∷ ps) (p ∷ with_preference q ps)

-- the preferences without the one of a name
abbrev pub without_name : List ℕ → List Preference → List Preference
without_name name [] = []
without_name name (p ∷ ps) = match_ordering (slug_cmp name p.name) (p ∷ ps) ps (p ∷ without_name name ps)

-- the preferences where the user sets a value, or takes it away
abbrev pub set_by_user : List ℕ → Option Tree → List Preference → List Preference
set_by_user name None ps = without_name name ps
set_by_user name (Some v) ps = with_preference (record { name = name; value = v; hold = None }) ps
