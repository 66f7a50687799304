use Rattle.std.proofs.Common.{◌≡◌, map, take}
use Rattle.std.specs.Prelude.{fold}
use Rattle.recipe_reader.specs.declared.recipe.FeatureValue.{FeatureValue}
use Rattle.enrol_evolver.specs.Wishes.{AreSeen, with_once}
use Rattle.enrol_evolver.proofs.wishes.add_features.Given as goal

abbrev pub invariant-loop-value : goal.invariant-loop-value
invariant-loop-value l = record {
  seen : AreSeen l.seen l.features;
  features : l.features ≡ fold with_once l.fn.features (map (λ (v : FeatureValue). v.feature) (take l.value-index l.value-items));
}
