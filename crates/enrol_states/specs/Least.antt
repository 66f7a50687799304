-- The least of the texts that pass a test.
use Rattle.std.specs.Prelude.{◌≡◌, ℕ, ◌&&◌, Bool, false, not, List, Option, Some, None, IsTrue, bytes_eq, if◌then◌else◌}
use Rattle.std.specs.Ordering.{is_lt, is_le}
use Rattle.recipe_reader.specs.Payloads.{slug_cmp, recipe_with}
use Rattle.recipe_reader.specs.Kinds.{kind_of, kind_eq}
use Rattle.recipe_reader.specs.declared.kinds.Kind.{Kind}
use Rattle.recipe_reader.specs.declared.recipe.Recipe.{Recipe}
use Rattle.enrol_states.specs.Statuses.{is_enrolled}
use Rattle.enrol_states.specs.declared.state.State.{State}
use Rattle.enrol_states.specs.declared.state.Row.{Row}

-- the least text that passes the test, where one does
abbrev pub IsLeast : (List ℕ → Bool) → Option (List ℕ) → Type 0
IsLeast test None = (t : List ℕ) → test t ≡ false
IsLeast test (Some s) = IsTrue (test s) × ((t : List ℕ) → IsTrue (test t) → IsTrue (is_le (slug_cmp s t)))

abbrev pub lesser_of : Option (List ℕ) → Option (List ℕ) → Option (List ℕ)
lesser_of None t = t
lesser_of (Some s) None = Some s
lesser_of (Some s) (Some t) = if is_lt (slug_cmp t s) then Some t else Some s

abbrev pub recipe_of_kind : Kind → Option Recipe → Option Recipe
recipe_of_kind kind None = None
recipe_of_kind kind (Some q) = if kind_eq kind (kind_of q) then Some q else None

-- another recipe of the same kind that the client is enrolled in by the row
abbrev pub rival_of : State → Recipe → Row → Option Recipe
rival_of s r row = if not (bytes_eq row.slug r.slug) && is_enrolled row.status then recipe_of_kind (kind_of r) (recipe_with row.slug s.live) else None
