-- The members of the object, one behind the other.
use Rattle.std.proofs.Common.{◌∙◌}
use Rattle.std.proofs.lemmas.Result.{on_ok_weaker}
use Rattle.json_tree.specs.Tokens.{tokens_of}
use Rattle.json_tree.proofs.Tokens.{part_then, token_then}
use Rattle.recipe_drill.specs.Records.{value_json, feature_json}
use Rattle.recipe_drill.proofs.Parted.{text_then}
use Rattle.recipe_drill.proofs.records.write_feature.Goals as goal

pub returns-clause-tokens : goal.returns-clause-tokens
unfolding feature_json
returns-clause-tokens c =
    on_ok_weaker c.end_object.result
    (λ closed.
    (token_then _ c.in_ok-begin_object.ensures
    (text_then _ c.in_ok-write_text.ensures.tokens (c.as_str.ensures.value ∙ c.in_ok-set_feature_name.ensures)
    (token_then _ c.in_ok-key.ensures
    (part_then c.key.new.self.tokens (tokens_of (value_json c.args.enabled)) _ c.in_ok-write_value.ensures.tokens
    closed)))))
    c.end_object.ensures.ok
