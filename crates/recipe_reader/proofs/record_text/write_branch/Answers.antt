-- The parts of the object, one behind the other.
use Rattle.std.proofs.Common.{◌++◌, map, pos, ap, ◌∙◌}
use Rattle.std.specs.Prelude.{codes}
use Rattle.std.proofs.lemmas.Result.{on_ok_weaker}
use Rattle.json_tree.specs.Json.{list, whole, items_of}
use Rattle.json_tree.specs.Tokens.{tokens_of}
use Rattle.json_tree.proofs.Tokens.{part_then, token_then}
use Rattle.recipe_reader.specs.Records.{feature_json}
use Rattle.recipe_reader.proofs.Members.{member_then, text_then}
use Rattle.recipe_reader.proofs.record_text.write_branch.Goals as goal

pub returns-clause-tokens : goal.returns-clause-tokens
returns-clause-tokens c =
    let b = c.args.branch.now in
    on_ok_weaker c.end_object.result
    (λ closed.
    (token_then _ c.in_ok-begin_object.ensures
    (token_then _ c.in_ok-key.ensures
    (part_then _ (tokens_of (list (items_of (map feature_json b.features)))) _ (c.in_ok-write_features.ensures.tokens ∙ ap (λ xs. c.key.new.self.tokens ++ tokens_of (list (items_of (map feature_json xs)))) c.as_slice.ensures)
    (member_then _ (codes "ratio") (whole (pos b.ratio)) _ c.in_ok-write_number.ensures.tokens
    (text_then _ (codes "slug") _ b.slug _ c.in_ok-write_text.ensures.tokens c.text.ensures.text
    closed))))))
    c.end_object.ensures.ok
