use Rattle.std.proofs.Common.{◌≡◌, ◌&&◌, ◌||◌, ℕ, List, not, take, bytes_eq}
use Rattle.std.specs.List.{list_any}
use Rattle.enrol_states.specs.Order.{is_in}
use Rattle.enrol_states.specs.TextSets.{has_text}
use Rattle.recipe_reader.specs.declared.recipe.FeatureValue.{FeatureValue}
use Rattle.enrol_states.proofs.features.add_features.Given as goal

abbrev pub invariant-loop-value : goal.invariant-loop-value
invariant-loop-value l =
    (f : List ℕ) → has_text l.features f ≡ (has_text l.fn.features f || (list_any (λ (v : FeatureValue). bytes_eq v.feature f) (take l.value-index l.value-items) && not (is_in l.coenrolling f)))
