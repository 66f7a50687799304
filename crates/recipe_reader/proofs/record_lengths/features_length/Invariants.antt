use Rattle.std.proofs.Common.{◌≡◌, ◌≤◌, ◌+◌, ◌*◌, map, take}
use Rattle.std.specs.List.{sum_by}
use Rattle.json_tree.specs.Json.{AreSoundItems, items_of}
use Rattle.json_length.proofs.Lengths.{item_length}
use Rattle.recipe_reader.specs.Records.{feature_json}
use Rattle.recipe_reader.proofs.record_lengths.features_length.Given as goal

abbrev pub invariant-loop-feature : goal.invariant-loop-feature
invariant-loop-feature l = record {
  length : l.length ≡ 1 + sum_by (λ x. item_length (feature_json x)) (take l.feature-index l.features);
  bound : l.length ≤ 1 + l.feature-index * 70000;
  sound : AreSoundItems (items_of (map feature_json (take l.feature-index l.features)));
}
