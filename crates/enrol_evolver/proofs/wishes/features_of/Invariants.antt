use Rattle.std.proofs.Common.{◌≡◌, [], map, take}
use Rattle.std.specs.Prelude.{fold}
use Rattle.std.specs.List.{flat_map}
use Rattle.recipe_reader.specs.declared.recipe.Branch.{Branch}
use Rattle.recipe_reader.specs.declared.recipe.FeatureValue.{FeatureValue}
use Rattle.enrol_evolver.specs.Wishes.{AreSeen, with_once}
use Rattle.enrol_evolver.proofs.wishes.features_of.Given as goal

abbrev pub invariant-loop-branch : goal.invariant-loop-branch
invariant-loop-branch l = record {
  seen : AreSeen l.seen l.features;
  features : l.features ≡ fold with_once [] (flat_map (λ (b : Branch). map (λ (v : FeatureValue). v.feature) b.features) (take l.branch-index l.branch-items));
}
