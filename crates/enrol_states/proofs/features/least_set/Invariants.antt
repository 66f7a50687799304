use Rattle.std.proofs.Common.{◌&&◌, take, bytes_eq, option_map}
use Rattle.std.specs.List.{list_any}
use Rattle.recipe_reader.specs.declared.recipe.FeatureValue.{FeatureValue}
use Rattle.enrol_states.specs.TextSets.{has_text}
use Rattle.enrol_states.specs.Least.{IsLeast}
use Rattle.enrol_states.proofs.features.least_set.Given as goal

abbrev pub invariant-loop-value : goal.invariant-loop-value
invariant-loop-value l = IsLeast (λ f. has_text l.features f && list_any (λ (v : FeatureValue). bytes_eq v.feature f) (take l.value-index l.value-items)) (option_map (λ t. t.now) l.least)
