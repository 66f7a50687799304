use Rattle.std.proofs.Common.{◌≡◌, ◌++◌, drop}
use Rattle.recipe_reader.specs.Records.{feature_json}
use Rattle.json_tree.proofs.Tokens.{items_left}
use Rattle.recipe_reader.proofs.record_text.write_features.Given as goal

abbrev pub invariant-loop-feature : goal.invariant-loop-feature
invariant-loop-feature l = record {
  before : l.writer.before ≡ l.initial.writer.before;
  tokens : l.writer.tokens ++ items_left feature_json (drop l.feature-index l.features) ≡ l.initial.writer.tokens ++ items_left feature_json l.features;
}
