use Rattle.std.proofs.Common.{◌≡◌, ◌++◌, drop}
use Rattle.recipe_drill.specs.Files as spec
use Rattle.recipe_drill.proofs.Definitions.{definitions_left}
use Rattle.recipe_drill.proofs.files.write_definitions.Given as goal

abbrev pub invariant-loop-number : goal.invariant-loop-number
invariant-loop-number l = record {
  before : l.writer.before ≡ l.initial.writer.before;
  tokens : l.writer.tokens ++ definitions_left (drop l.number-index spec.feature_numbers) ≡ l.initial.writer.tokens ++ definitions_left spec.feature_numbers;
}
