-- The members of the object, one behind the other.
use Rattle.std.proofs.Common.{[], ◌∷◌, ◌++◌}
use Rattle.std.proofs.lemmas.Result.{on_ok_weaker}
use Rattle.json.specs.Token.{end_array}
use Rattle.json_tree.specs.Tokens.{tokens_of}
use Rattle.json_tree.proofs.Tokens.{part_then, token_then}
use Rattle.recipe_drill.specs.Records.{feature_json, branch_json}
use Rattle.recipe_drill.proofs.Parted.{member_then}
use Rattle.recipe_drill.proofs.records.write_branch.Goals as goal

pub returns-clause-tokens : goal.returns-clause-tokens
unfolding branch_json
returns-clause-tokens c =
    let feature = tokens_of (feature_json c.args.feature c.args.enabled) in
    let features = part_then c.begin_array.new.self.tokens feature (end_array ∷ []) c.in_ok-write_feature.ensures.tokens c.in_ok-end_array.ensures.ok in
    on_ok_weaker c.end_object.result
    (λ closed.
    (token_then _ c.in_ok-begin_object.ensures
    (token_then _ c.in_ok-key.ensures
    (token_then _ c.in_ok-begin_array.ensures
    (part_then c.begin_array.new.self.tokens (feature ++ end_array ∷ []) _ features
    (member_then _ c.in_ok-write_number.ensures.tokens
    (member_then _ c.in_ok-write_text.ensures.tokens
    closed)))))))
    c.end_object.ensures.ok
