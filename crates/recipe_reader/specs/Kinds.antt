-- What a recipe is, when it was published, and which branches it has.
use Rattle.std.specs.Prelude.{ℕ, ℤ, ◌==◌, Bool, List, Option, option_and_then, bytes_eq, if◌then◌else◌}
use Rattle.std.specs.List.{list_any}
use Rattle.plain_text.specs.Moments.{moment}
use Rattle.recipe_reader.specs.declared.kinds.Kind.{Kind}
use Rattle.recipe_reader.specs.declared.kinds.Kind.TheVariants.{Experiment, Rollout}
use Rattle.recipe_reader.specs.declared.recipe.Recipe.{Recipe}

abbrev pub kind_of : Recipe → Kind
kind_of r = if r.rollout then Rollout else Experiment

abbrev pub kind_place : Kind → ℕ
kind_place Experiment = 0
kind_place Rollout = 1

-- whether the two are both experiments or both rollouts
abbrev pub kind_eq : Kind → Kind → Bool
kind_eq k l = kind_place k == kind_place l

-- when the recipe was published, in seconds since 1970 began; nothing where its record doesn't say so
abbrev pub published_at : Recipe → Option ℤ
published_at r = option_and_then moment r.published

-- whether the recipe has a branch of that slug
abbrev pub has_branch : Recipe → List ℕ → Bool
has_branch r branch = list_any (λ b. bytes_eq b.slug branch) r.branches
