-- Features that only one recipe of a kind may hold.
use Rattle.std.specs.Prelude.{◌≡◌, ℕ, false, List, Some, IsTrue, bytes_eq}
use Rattle.recipe_reader.specs.Payloads.{recipe_with}
use Rattle.recipe_reader.specs.declared.recipe.Recipe.{Recipe}
use Rattle.enrol_states.specs.Statuses.{is_enrolled_now}
use Rattle.enrol_states.specs.State.{status_of}
use Rattle.enrol_states.specs.Recipes.{share}
use Rattle.enrol_states.specs.declared.state.State.{State}

-- no two recipes of one kind in which the client is enrolled share a feature that may not be shared
abbrev pub AreExclusive : State → Type 0
AreExclusive s =
    (slug other feature : List ℕ) (r q : Recipe) → IsTrue (is_enrolled_now (status_of slug s.rows)) → IsTrue (is_enrolled_now (status_of other s.rows)) → recipe_with slug s.live ≡ Some r → recipe_with other s.live ≡ Some q
    → bytes_eq slug other ≡ false → share s.coenrolling r q feature ≡ false
