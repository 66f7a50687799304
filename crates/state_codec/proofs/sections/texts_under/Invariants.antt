use Rattle.std.proofs.Common.{◌≡◌, [], drop}
use Rattle.state_codec.specs.Kinds.{letter}
use Rattle.state_codec.specs.Folds.{folded, keeping}
use Rattle.state_codec.specs.Reading.{text_row}
use Rattle.state_codec.proofs.sections.texts_under.Given as goal

abbrev pub invariant-loop-row : goal.invariant-loop-row
invariant-loop-row l = folded (keeping (text_row (letter l.kind))) l.texts (drop l.row-index l.rows) ≡ folded (keeping (text_row (letter l.kind))) [] l.rows
