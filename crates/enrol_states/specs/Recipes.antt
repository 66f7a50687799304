-- What recipes offer, and which features they share.
use Rattle.std.specs.Prelude.{ℕ, ◌&&◌, Bool, false, not, List, Option, Some, None, bytes_eq}
use Rattle.std.specs.List.{list_any}
use Rattle.recipe_reader.specs.Kinds.{kind_of, kind_eq}
use Rattle.recipe_reader.specs.declared.recipe.Recipe.{Recipe}
use Rattle.recipe_reader.specs.declared.recipe.Branch.{Branch}
use Rattle.enrol_states.specs.Order.{is_in}
pub use Rattle.recipe_reader.specs.Kinds.{has_branch}

-- whether there is a recipe, and it has the branch
abbrev pub offers : Option Recipe → List ℕ → Bool
offers None branch = false
offers (Some r) branch = has_branch r branch

abbrev pub sets : Branch → List ℕ → Bool
sets b feature = list_any (λ v. bytes_eq v.feature feature) b.features

-- whether a branch of the recipe sets the feature
abbrev pub has_feature : Recipe → List ℕ → Bool
has_feature r feature = list_any (λ b. sets b feature) r.branches

-- whether the recipes are both rollouts or both experiments, and both have the feature, which isn't one of those that may be shared
abbrev pub share : List (List ℕ) → Recipe → Recipe → List ℕ → Bool
share coenrolling r q feature = kind_eq (kind_of r) (kind_of q) && (has_feature r feature && (has_feature q feature && not (is_in coenrolling feature)))
