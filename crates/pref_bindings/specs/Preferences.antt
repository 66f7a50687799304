-- The preferences that have a value, in order by name, and what is known of a name.
use Rattle.std.specs.Prelude.{◌≡◌, ℕ, true, List, [], ◌∷◌, map, Option, Some, None, IsTrue, IsUtf8, FitsSigned, ⊤, bytes_eq, option_map, option_and_then, if◌then◌else◌}
use Rattle.std.specs.Int.{w64}
use Rattle.std.specs.List.{AllByRecursion}
use Rattle.std.specs.Option.{is_some}
use Rattle.json_tree.specs.declared.tree.Tree.{Tree}
use Rattle.json_tree.specs.declared.tree.Tree.TheVariants.{Null, Truth, Whole, Odd, Text, List as Items, Object}
use Rattle.plain_text.specs.Names.{is_name}
use Rattle.enrol_states.specs.Order.{Rise}
use Rattle.enrol_states.specs.Statuses.{IsSlug}
use Rattle.pref_bindings.specs.declared.preference.Hold.{Hold}
use Rattle.pref_bindings.specs.declared.preference.Preference.{Preference}

-- a truth value, a whole number of 64 bits, or a text in UTF-8
abbrev pub IsValue : Tree → Type 0
IsValue Null = ⊥
IsValue (Truth b) = ⊤
IsValue (Whole n) = FitsSigned w64 n
IsValue Odd = ⊥
IsValue (Text s) = IsUtf8 s
IsValue (Items xs) = ⊥
IsValue (Object ms) = ⊥

-- a value, where there is one
abbrev pub IsValueOrNone : Option Tree → Type 0
IsValueOrNone None = ⊤
IsValueOrNone (Some v) = IsValue v

-- the holder is a slug, and what was before is a value
abbrev pub IsHold : Option Hold → Type 0
IsHold None = ⊤
IsHold (Some h) = IsSlug h.holder × IsValueOrNone h.before

pub record IsPreference (p : Preference) : Type 0 where
  pub name : IsTrue (is_name p.name)
  pub value : IsValue p.value
  pub hold : IsHold p.hold

abbrev pub names_of : List Preference → List (List ℕ)
names_of ps = map (λ p. p.name) ps

-- the names rise, so that no name stands twice
pub record IsSound (ps : List Preference) : Type 0 where
  pub names : Rise (names_of ps)
  pub each : AllByRecursion IsPreference ps

-- ---- what is known of a name

-- the preference of the name
abbrev pub found : List ℕ → List Preference → Option Preference
found name [] = None
found name (p ∷ ps) = if bytes_eq p.name name then Some p else found name ps

-- its present value
abbrev pub value_of : List ℕ → List Preference → Option Tree
value_of name ps = option_map (λ p. p.value) (found name ps)

-- the slug that holds it
abbrev pub holder_of : List ℕ → List Preference → Option (List ℕ)
holder_of name ps = option_and_then (λ p. option_map (λ h. h.holder) p.hold) (found name ps)

-- somebody holds the name of each of these
abbrev pub AreHeld : List (List ℕ × Tree) → List Preference → Type 0
AreHeld vs ps = AllByRecursion (λ v. is_some (holder_of v.0 ps) ≡ true) vs
