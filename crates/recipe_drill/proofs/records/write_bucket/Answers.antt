-- The members of the object, one behind the other.
use Rattle.std.proofs.Common.{◌∙◌}
use Rattle.std.proofs.lemmas.Result.{on_ok_weaker}
use Rattle.json_tree.proofs.Tokens.{token_then}
use Rattle.recipe_drill.specs.Records.{bucket_json}
use Rattle.recipe_drill.proofs.Parted.{member_then, text_then}
use Rattle.recipe_drill.proofs.records.write_bucket.Goals as goal

pub returns-clause-tokens : goal.returns-clause-tokens
unfolding bucket_json
returns-clause-tokens c =
    on_ok_weaker c.end_object.result
    (λ closed.
    (token_then _ c.in_ok-begin_object.ensures
    (member_then _ c.in_ok-write_number.ensures.tokens
    (text_then _ c.in_ok-write_text.ensures.tokens (c.as_str.ensures.value ∙ c.in_ok-set_namespace.ensures)
    (member_then _ c.in_ok-write_text-2.ensures.tokens
    (member_then _ c.in_ok-write_number-2.ensures.tokens
    (member_then _ c.in_ok-write_number-3.ensures.tokens
    closed)))))))
    c.end_object.ensures.ok
