-- Which rows take features of a recipe.
use Rattle.std.specs.Prelude.{◌≡◌, ℕ, ◌&&◌, Bool, false, not, List, All, Option, Some, None, bytes_eq}
use Rattle.recipe_reader.specs.Payloads.{recipe_with}
use Rattle.recipe_reader.specs.declared.recipe.Recipe.{Recipe}
use Rattle.enrol_states.specs.Statuses.{is_enrolled}
use Rattle.enrol_states.specs.Recipes.{share}
use Rattle.enrol_states.specs.declared.state.State.{State}
use Rattle.enrol_states.specs.declared.state.Row.{Row}

abbrev pub shares_with : List (List ℕ) → Recipe → Option Recipe → List ℕ → Bool
shares_with coenrolling r None feature = false
shares_with coenrolling r (Some q) feature = share coenrolling r q feature

-- whether the client is enrolled in the row's recipe, and this is another one than r, of the same kind, which shares the feature with r
abbrev pub takes : State → Recipe → Row → List ℕ → Bool
takes s r row feature = not (bytes_eq row.slug r.slug) && (is_enrolled row.status && shares_with s.coenrolling r (recipe_with row.slug s.live) feature)

-- no row takes a feature of the recipe
abbrev pub IsFree : State → Recipe → Type 0
IsFree s r = All (λ row. (feature : List ℕ) → takes s r row feature ≡ false) s.rows
