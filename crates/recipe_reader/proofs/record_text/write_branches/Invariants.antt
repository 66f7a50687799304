use Rattle.std.proofs.Common.{◌≡◌, ◌++◌, drop}
use Rattle.recipe_reader.specs.Records.{branch_json}
use Rattle.json_tree.proofs.Tokens.{items_left}
use Rattle.recipe_reader.proofs.record_text.write_branches.Given as goal

abbrev pub invariant-loop-branch : goal.invariant-loop-branch
invariant-loop-branch l = record {
  before : l.writer.before ≡ l.initial.writer.before;
  tokens : l.writer.tokens ++ items_left branch_json (drop l.branch-index l.branches) ≡ l.initial.writer.tokens ++ items_left branch_json l.branches;
}
