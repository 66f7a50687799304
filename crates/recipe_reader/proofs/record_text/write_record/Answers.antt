-- The parts of the object, one behind the other.
use Rattle.std.proofs.Common.{◌++◌, map, ap, ◌∙◌}
use Rattle.std.specs.Prelude.{codes}
use Rattle.std.proofs.lemmas.Result.{on_ok_weaker}
use Rattle.json_tree.specs.Json.{list, text, truth, items_of}
use Rattle.json_tree.specs.Tokens.{tokens_of}
use Rattle.json_tree.proofs.Tokens.{part_then, token_then}
use Rattle.recipe_reader.specs.Records.{text_or_null, branch_json, bucket_json}
use Rattle.recipe_reader.proofs.Members.{member_then, text_then}
use Rattle.recipe_reader.proofs.record_text.write_record.Goals as goal

pub returns-clause-tokens : goal.returns-clause-tokens
returns-clause-tokens c =
    let r = c.args.recipe.now in
    on_ok_weaker c.end_object.result
    (λ closed.
    (token_then _ c.in_ok-begin_object.ensures
    (member_then _ (codes "appName") (text_or_null r.app_name) _ c.in_ok-write_optional.ensures.tokens
    (token_then _ c.in_ok-key.ensures
    (part_then _ (tokens_of (list (items_of (map branch_json r.branches)))) _ (c.in_ok-write_branches.ensures.tokens ∙ ap (λ xs. c.key.new.self.tokens ++ tokens_of (list (items_of (map branch_json xs)))) c.as_slice.ensures)
    (token_then _ c.in_ok-key-2.ensures
    (part_then _ (tokens_of (bucket_json r.bucket)) _ c.in_ok-write_bucket.ensures.tokens
    (member_then _ (codes "channel") (text_or_null r.channel) _ c.in_ok-write_optional-2.ensures.tokens
    (member_then _ (codes "isEnrollmentPaused") (truth r.paused) _ c.in_ok-write_truth.ensures.tokens
    (member_then _ (codes "isRollout") (truth r.rollout) _ c.in_ok-write_truth-2.ensures.tokens
    (member_then _ (codes "publishedDate") (text_or_null r.published) _ c.in_ok-write_optional-3.ensures.tokens
    (member_then _ (codes "schemaVersion") (text (codes "1")) _ c.in_ok-write_text.ensures.tokens
    (text_then _ (codes "slug") _ r.slug _ c.in_ok-write_text-2.ensures.tokens c.text.ensures.text
    (member_then _ (codes "targeting") (text_or_null r.targeting) _ c.in_ok-write_optional-4.ensures.tokens
    closed))))))))))))))
    c.end_object.ensures.ok
