-- The members of the object, one behind the other.
use Rattle.std.proofs.Common.{◌∙◌}
use Rattle.std.proofs.lemmas.Result.{on_ok_weaker}
use Rattle.json_tree.specs.Tokens.{tokens_of}
use Rattle.json_tree.proofs.Tokens.{part_then, token_then}
use Rattle.recipe_drill.specs.Records.{branches_json, bucket_json, drawn_record}
use Rattle.recipe_drill.proofs.Parted.{member_then, text_then}
use Rattle.recipe_drill.proofs.records.write_record.Goals as goal

pub returns-clause-tokens : goal.returns-clause-tokens
unfolding drawn_record
returns-clause-tokens c =
    on_ok_weaker c.end_object.result
    (λ closed.
    (token_then _ c.in_ok-begin_object.ensures
    (member_then _ c.in_ok-write_text.ensures.tokens
    (token_then _ c.in_ok-key.ensures
    (part_then c.key.new.self.tokens (tokens_of (branches_json c.args.draws.feature)) _ c.in_ok-write_branches.ensures.tokens
    (token_then _ c.in_ok-key-2.ensures
    (part_then c.key-2.new.self.tokens (tokens_of (bucket_json c.args.draws.feature c.args.draws.count)) _ c.in_ok-write_bucket.ensures.tokens
    (member_then _ c.in_ok-write_text-2.ensures.tokens
    (member_then _ c.in_ok-write_truth.ensures.tokens
    (member_then _ c.in_ok-write_truth-2.ensures.tokens
    (member_then _ c.in_ok-write_text-3.ensures.tokens
    (text_then _ c.in_ok-write_text-4.ensures.tokens (c.as_str.ensures.value ∙ c.in_ok-set_slug.ensures)
    (text_then _ c.in_ok-write_text-5.ensures.tokens (c.as_str-2.ensures.value ∙ c.in_ok-set_targeting.ensures)
    closed)))))))))))))
    c.end_object.ensures.ok
