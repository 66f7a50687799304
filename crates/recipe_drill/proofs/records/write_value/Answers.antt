-- The member of the object between its brackets.
use Rattle.std.proofs.lemmas.Result.{on_ok_weaker}
use Rattle.json_tree.proofs.Tokens.{token_then}
use Rattle.recipe_drill.specs.Records.{value_json}
use Rattle.recipe_drill.proofs.Parted.{member_then}
use Rattle.recipe_drill.proofs.records.write_value.Goals as goal

pub returns-clause-tokens : goal.returns-clause-tokens
unfolding value_json
returns-clause-tokens c =
    on_ok_weaker c.end_object.result
    (λ closed. (token_then _ c.in_ok-begin_object.ensures (member_then _ c.in_ok-write_truth.ensures.tokens closed)))
    c.end_object.ensures.ok
