-- The parts of the object, one behind the other.
use Rattle.std.proofs.Common.{map}
use Rattle.std.specs.List.{range_with_len}
use Rattle.std.proofs.lemmas.Result.{on_ok_weaker}
use Rattle.json_tree.specs.Json.{list, items_of}
use Rattle.json_tree.specs.Tokens.{tokens_of}
use Rattle.json_tree.proofs.Tokens.{part_then, token_then}
use Rattle.recipe_drill.specs.Records.{record_json}
use Rattle.recipe_drill.specs.Files.{recipes_json}
use Rattle.recipe_drill.proofs.files.write_recipes.Goals as goal

pub returns-clause-tokens : goal.returns-clause-tokens
unfolding recipes_json
returns-clause-tokens c =
    on_ok_weaker c.end_object.result
    (λ closed.
    (token_then _ c.in_ok-begin_object.ensures
    (token_then _ c.in_ok-key.ensures
    (part_then c.key.new.self.tokens (tokens_of (list (items_of (map (record_json c.args.start) (range_with_len 0 c.args.count))))) _ c.in_ok-write_records.ensures.tokens
    closed))))
    c.end_object.ensures.ok
