-- The parts of the object, one behind the other.
use Rattle.std.proofs.lemmas.Result.{on_ok_weaker}
use Rattle.json_tree.specs.Tokens.{tokens_of}
use Rattle.json_tree.proofs.Tokens.{part_then, token_then}
use Rattle.recipe_drill.specs.Files.{variable_json, definition_json}
use Rattle.recipe_drill.proofs.Parted.{member_then}
use Rattle.recipe_drill.proofs.files.write_definition.Goals as goal

pub returns-clause-tokens : goal.returns-clause-tokens
unfolding definition_json
returns-clause-tokens c =
    on_ok_weaker c.end_object-2.result
    (λ closed.
    (token_then _ c.in_ok-begin_object.ensures
    (member_then _ c.in_ok-write_truth.ensures.tokens
    (token_then _ c.in_ok-key.ensures
    (token_then _ c.in_ok-begin_object-2.ensures
    (token_then _ c.in_ok-key-2.ensures
    (part_then c.key-2.new.self.tokens (tokens_of variable_json) _ c.in_ok-write_variable.ensures.tokens
    (token_then _ c.in_ok-end_object.ensures
    closed))))))))
    c.end_object-2.ensures.ok
