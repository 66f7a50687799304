-- Who takes a feature of a recipe that a user opts in to, where somebody does.
use Rattle.std.specs.Prelude.{ℕ, Bool, List, [], ◌∷◌, ◌++◌, map, Option, Some, None, if◌then◌else◌}
use Rattle.recipe_reader.specs.declared.recipe.Recipe.{Recipe}
use Rattle.recipe_reader.specs.declared.recipe.Branch.{Branch}
use Rattle.enrol_states.specs.Features.{takes}
use Rattle.enrol_states.specs.Least.{lesser_of}
use Rattle.enrol_states.specs.declared.state.State.{State}
use Rattle.enrol_states.specs.declared.state.Row.{Row}

-- the features of all branches
abbrev pub features_in : List Branch → List (List ℕ)
features_in [] = []
features_in (b ∷ bs) = map (λ v. v.feature) b.features ++ features_in bs

abbrev pub if_passes : (List ℕ → Bool) → List ℕ → Option (List ℕ)
if_passes test t = if test t then Some t else None

-- the least of the texts that pass the test
abbrev pub least_of : (List ℕ → Bool) → List (List ℕ) → Option (List ℕ)
least_of test [] = None
least_of test (t ∷ ts) = lesser_of (if_passes test t) (least_of test ts)

-- the slug with this feature, or what comes later
abbrev pub taker_or : List ℕ → Option (List ℕ) → Option (List ℕ × List ℕ) → Option (List ℕ × List ℕ)
taker_or slug (Some feature) later = Some (slug, feature)
taker_or slug None later = later

-- the first of the rows that takes a feature of the recipe, and the least feature that it takes
abbrev pub first_taker : State → Recipe → List Row → Option (List ℕ × List ℕ)
first_taker s r [] = None
first_taker s r (row ∷ rows) = taker_or row.slug (least_of (takes s r row) (features_in r.branches)) (first_taker s r rows)
