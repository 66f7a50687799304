-- The two branches, one behind the other.
use Rattle.std.proofs.Common.{true, false, codes}
use Rattle.std.proofs.lemmas.Result.{on_ok_weaker}
use Rattle.json_tree.specs.Tokens.{tokens_of}
use Rattle.json_tree.proofs.Tokens.{part_then, token_then}
use Rattle.recipe_drill.specs.Records.{branch_json, branches_json}
use Rattle.recipe_drill.proofs.records.write_branches.Goals as goal

pub returns-clause-tokens : goal.returns-clause-tokens
unfolding branches_json
returns-clause-tokens c =
    on_ok_weaker c.end_array.result
    (λ closed.
    (token_then _ c.in_ok-begin_array.ensures
    (part_then c.begin_array.new.self.tokens (tokens_of (branch_json (codes "control") c.args.feature false)) _ c.in_ok-write_branch.ensures.tokens
    (part_then c.write_branch.new.writer.tokens (tokens_of (branch_json (codes "treatment") c.args.feature true)) _ c.in_ok-write_branch-2.ensures.tokens
    closed))))
    c.end_array.ensures.ok
