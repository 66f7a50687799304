-- What was taken of a payload so far, with the recipes in a map by their slugs.
use Rattle.std.specs.Prelude.{◌≡◌, ℕ, List, [], ◌∷◌, ⊤}
use Rattle.std.specs.Map.{values_of}
use Rattle.recipe_reader.specs.declared.recipe.Recipe.{Recipe}
use Rattle.recipe_reader.specs.declared.payload.Payload.{Payload}
use Rattle.recipe_reader.specs.declared.payload.Taken.{Taken}

-- each recipe stands under its own slug
abbrev pub HaveOwnSlugs : List (List ℕ × Recipe) → Type 0
HaveOwnSlugs [] = ⊤
HaveOwnSlugs (e ∷ es) = (e.0 ≡ e.1.slug) × HaveOwnSlugs es

abbrev pub so_far : Taken → Payload
so_far t = record { recipes = values_of t.recipes.entries; skipped = t.skipped }
