-- Which rows hold a feature that only one recipe of a kind may hold.
use Rattle.std.specs.Prelude.{◌≡◌, ◌<◌, ℕ, ◌&&◌, Bool, false, not, List, length, get_or, take, Option, Some, None, IsTrue, if◌then◌else◌}
use Rattle.std.specs.List.{list_any}
use Rattle.recipe_reader.specs.Payloads.{recipe_with}
use Rattle.recipe_reader.specs.declared.kinds.Kind.{Kind}
use Rattle.recipe_reader.specs.declared.recipe.Recipe.{Recipe}
use Rattle.enrol_states.specs.Order.{is_in}
use Rattle.enrol_states.specs.Statuses.{is_enrolled}
use Rattle.enrol_states.specs.Recipes.{has_feature}
use Rattle.enrol_states.specs.Least.{recipe_of_kind}
use Rattle.enrol_states.specs.declared.state.State.{State}
use Rattle.enrol_states.specs.declared.state.Row.{Row}

-- whether the recipe has the feature, which isn't one of those that may be shared
abbrev pub has_alone : List (List ℕ) → Recipe → List ℕ → Bool
has_alone coenrolling r feature = has_feature r feature && not (is_in coenrolling feature)

-- the live recipe of the kind in which the client is enrolled by the row
abbrev pub enrolled_recipe : State → Kind → Row → Option Recipe
enrolled_recipe s kind row = if is_enrolled row.status then recipe_of_kind kind (recipe_with row.slug s.live) else None

abbrev pub recipe_holds : List (List ℕ) → Option Recipe → List ℕ → Bool
recipe_holds coenrolling None feature = false
recipe_holds coenrolling (Some r) feature = has_alone coenrolling r feature

-- whether the client is enrolled by the row in a recipe of the kind that has the feature, which may not be shared
abbrev pub holds : State → Kind → Row → List ℕ → Bool
holds s kind row feature = recipe_holds s.coenrolling (enrolled_recipe s kind row) feature

-- whether one of the rows holds the feature
abbrev pub is_held : State → Kind → List Row → List ℕ → Bool
is_held s kind rows feature = list_any (λ row. holds s kind row feature) rows

-- no row before the i-th holds a feature that an earlier one holds
abbrev pub AreApartBefore : State → Kind → List Row → ℕ → Type 0
AreApartBefore s kind rows i = (j : ℕ) (row : Row) (feature : List ℕ) → j < i → IsTrue (holds s kind (get_or rows j row) feature) → is_held s kind (take j rows) feature ≡ false

-- no two rows hold one feature
abbrev pub AreApart : State → Kind → Type 0
AreApart s kind = (j : ℕ) (row : Row) (feature : List ℕ) → j < length s.rows → IsTrue (holds s kind (get_or s.rows j row) feature) → is_held s kind (take j s.rows) feature ≡ false
