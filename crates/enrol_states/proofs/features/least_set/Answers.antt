use Rattle.std.proofs.Common.{◌&&◌, ◌≤◌, length, option_map, bytes_eq, sym, subst, arith}
use Rattle.recipe_reader.specs.declared.recipe.FeatureValue.{FeatureValue}
use Rattle.enrol_states.specs.TextSets.{has_text}
use Rattle.enrol_states.specs.Least.{IsLeast}
use Rattle.enrol_states.proofs.Leasts.{IsLeast-one, IsLeast-more, IsLeast-all}
use Rattle.enrol_states.proofs.features.least_set.Goals as goal

pub loop-value-preserved : goal.loop-value-preserved
loop-value-preserved c =
    let features = c.args.features.now in
    let values = c.as_slice-value-items.result.now in
    let one =
    subst (λ name. IsLeast (λ f. has_text features f && bytes_eq name f) (option_map (λ t. t.now) c.one_of.result)) c.as_str.ensures.text
    (subst (IsLeast (λ f. has_text features f && bytes_eq c.as_str.result.now f)) (sym c.one_of.ensures) (IsLeast-one (λ f. has_text features f) c.as_str.result.now))
    in
    IsLeast-more (λ f. has_text features f) (λ (v : FeatureValue) f. bytes_eq v.feature f) values c.loop-value.value-index c.value-item.result _ _ _ c.loop-value-test.true c.value-item.is c.loop-value.invariant one c.lesser-least.ensures

pub returns : goal.returns
returns c =
    let features = c.args.features.now in
    let values = c.as_slice-value-items.result.now in
    let all : length values ≤ c.loop-value.value-index = omega (arith, c.loop-value-test.false) in
    IsLeast-all (λ f. has_text features f) (λ (v : FeatureValue) f. bytes_eq v.feature f) values c.args.branch.now.features c.loop-value.value-index _ all c.as_slice-value-items.ensures c.loop-value.invariant
