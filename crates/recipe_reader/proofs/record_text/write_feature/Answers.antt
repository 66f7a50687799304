-- The parts of the object, one behind the other.
use Rattle.std.specs.Prelude.{codes}
use Rattle.std.proofs.lemmas.Result.{on_ok_weaker}
use Rattle.json_tree.specs.Tree.{json_of}
use Rattle.json_tree.specs.Tokens.{tokens_of}
use Rattle.json_tree.proofs.Tokens.{part_then, token_then}
use Rattle.recipe_reader.proofs.Members.{text_then}
use Rattle.recipe_reader.proofs.record_text.write_feature.Goals as goal

pub returns-clause-tokens : goal.returns-clause-tokens
returns-clause-tokens c =
    let f = c.args.feature.now in
    on_ok_weaker c.end_object.result
    (λ closed.
    (token_then _ c.in_ok-begin_object.ensures
    (text_then _ (codes "featureId") _ f.feature _ c.in_ok-write_text.ensures.tokens c.as_str.ensures.text
    (token_then _ c.in_ok-key.ensures
    (part_then _ (tokens_of (json_of f.value)) _ c.in_ok-write_tree.ensures.tokens
    closed)))))
    c.end_object.ensures.ok
