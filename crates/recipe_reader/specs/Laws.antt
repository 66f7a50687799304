-- Laws of the definitions alone.
use Rattle.std.specs.Prelude.{◌≡◌, ◌↔◌, IsTrue}
use Rattle.recipe_reader.specs.Equal.{recipe_eq}
use Rattle.recipe_reader.specs.declared.recipe.Recipe.{Recipe}

-- the test of equality tells recipes apart
abbrev pub EqualRecipesAreOne : Type 0
EqualRecipesAreOne = (r s : Recipe) → IsTrue (recipe_eq r s) ↔ (r ≡ s)
