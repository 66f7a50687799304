-- All items, between their brackets.
use Rattle.std.proofs.Common.{refl}
use Rattle.std.proofs.lemmas.Result.{on_ok_weaker}
use Rattle.recipe_reader.specs.Records.{feature_json}
use Rattle.json_tree.proofs.Tokens.{items_written}
use Rattle.recipe_reader.proofs.record_text.write_features.Goals as goal

pub returns-clause-tokens : goal.returns-clause-tokens
returns-clause-tokens c =
    on_ok_weaker c.end_array.result
    (λ closed. items_written feature_json c.args.features.now c.loop-feature.feature-index _ _ _ _ _ c.loop-feature-test.false c.in_ok-begin_array.ensures.ok c.loop-feature.invariant.tokens closed refl)
    c.end_array.ensures.ok
