-- The parts of the object, one behind the other.
use Rattle.std.proofs.Common.{pos}
use Rattle.std.specs.Prelude.{codes}
use Rattle.std.proofs.lemmas.Result.{on_ok_weaker}
use Rattle.json_tree.specs.Json.{whole}
use Rattle.json_tree.proofs.Tokens.{token_then}
use Rattle.recipe_reader.proofs.Members.{member_then, text_then}
use Rattle.recipe_reader.proofs.record_text.write_bucket.Goals as goal

pub returns-clause-tokens : goal.returns-clause-tokens
returns-clause-tokens c =
    let b = c.args.bucket.now in
    on_ok_weaker c.end_object.result
    (λ closed.
    (token_then _ c.in_ok-begin_object.ensures
    (member_then _ (codes "count") (whole (pos b.count)) _ c.in_ok-write_number.ensures.tokens
    (text_then _ (codes "namespace") _ b.namespace _ c.in_ok-write_text.ensures.tokens c.as_str.ensures.text
    (text_then _ (codes "randomizationUnit") _ b.unit _ c.in_ok-write_text-2.ensures.tokens c.as_str-2.ensures.text
    (member_then _ (codes "start") (whole (pos b.start)) _ c.in_ok-write_number-2.ensures.tokens
    (member_then _ (codes "total") (whole (pos b.total)) _ c.in_ok-write_number-3.ensures.tokens
    closed)))))))
    c.end_object.ensures.ok
