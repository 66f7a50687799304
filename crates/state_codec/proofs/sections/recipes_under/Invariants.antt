use Rattle.std.proofs.Common.{◌≡◌, [], drop}
use Rattle.recipe_reader.specs.Payloads.{AreValid}
use Rattle.state_codec.specs.Kinds.{letter}
use Rattle.state_codec.specs.Folds.{folded}
use Rattle.state_codec.specs.Reading.{inserting}
use Rattle.state_codec.proofs.sections.recipes_under.Given as goal

abbrev pub invariant-loop-row : goal.invariant-loop-row
invariant-loop-row l = record {
  read : folded (inserting (letter l.kind)) l.recipes (drop l.row-index l.rows) ≡ folded (inserting (letter l.kind)) [] l.rows;
  valid : AreValid l.recipes;
}
