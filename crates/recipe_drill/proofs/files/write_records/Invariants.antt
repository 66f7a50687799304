use Rattle.std.proofs.Common.{◌≡◌, ◌*◌, ◌++◌, drop}
use Rattle.std.specs.List.{range_with_len}
use Rattle.json_tree.proofs.Tokens.{items_left}
use Rattle.recipe_drill.specs.Draws.{state_after}
use Rattle.recipe_drill.specs.Records.{record_json}
use Rattle.recipe_drill.proofs.files.write_records.Given as goal

abbrev pub invariant-loop-index : goal.invariant-loop-index
invariant-loop-index l = record {
  state : l.state ≡ state_after l.start (5 * l.index);
  before : l.writer.before ≡ l.initial.writer.before;
  tokens : l.writer.tokens ++ items_left (record_json l.start) (drop l.index (range_with_len 0 l.count)) ≡ l.initial.writer.tokens ++ items_left (record_json l.start) (range_with_len 0 l.count);
}
