-- The parts of the object, one behind the other.
use Rattle.std.proofs.Common.{map}
use Rattle.std.proofs.lemmas.Result.{on_ok_weaker}
use Rattle.json_tree.specs.Json.{object, members_of}
use Rattle.json_tree.specs.Tokens.{tokens_of}
use Rattle.json_tree.proofs.Tokens.{part_then, token_then}
use Rattle.recipe_drill.specs.Files.{definition, feature_numbers, manifest_json}
use Rattle.recipe_drill.proofs.files.write_manifest.Goals as goal

pub returns-clause-tokens : goal.returns-clause-tokens
unfolding manifest_json
returns-clause-tokens c =
    on_ok_weaker c.end_object.result
    (λ closed.
    (token_then _ c.in_ok-begin_object.ensures
    (token_then _ c.in_ok-key.ensures
    (token_then _ c.in_ok-begin_array.ensures
    (token_then _ c.in_ok-string.ensures
    (token_then _ c.in_ok-end_array.ensures
    (token_then _ c.in_ok-key-2.ensures
    (part_then c.key-2.new.self.tokens (tokens_of (object (members_of (map definition feature_numbers)))) _ c.in_ok-write_definitions.ensures.tokens
    closed))))))))
    c.end_object.ensures.ok
