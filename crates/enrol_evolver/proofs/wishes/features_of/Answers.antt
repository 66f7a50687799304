use Rattle.std.proofs.Common.{[], map, take, refl, sym, ap, ◌∙◌}
use Rattle.std.specs.Prelude.{fold}
use Rattle.std.specs.List.{flat_map}
use Rattle.recipe_reader.specs.declared.recipe.Branch.{Branch}
use Rattle.recipe_reader.specs.declared.recipe.FeatureValue.{FeatureValue}
use Rattle.enrol_evolver.specs.Wishes.{with_once}
use Rattle.enrol_evolver.proofs.Results.{flat_map-more, fold-append}
use Rattle.enrol_evolver.proofs.wishes.features_of.Goals as goal

pub loop-branch-preserved : goal.loop-branch-preserved
loop-branch-preserved c =
    let values = λ (b : Branch). map (λ (v : FeatureValue). v.feature) b.features in
    let bs = c.as_slice-branch-items.result.now in
    let i = c.loop-branch.branch-index in
    record {
      seen = c.in_ok-add_features.ensures.seen;
      features = c.in_ok-add_features.ensures.features ∙ ap (λ fs. fold with_once fs (values c.branch-item.result)) c.loop-branch.invariant.features ∙ sym (fold-append with_once (flat_map values (take i bs)) (values c.branch-item.result) [])
          ∙ ap (fold with_once []) (flat_map-more values bs i c.branch-item.result _ _ c.loop-branch-test.true c.branch-item.is refl refl);
    }
