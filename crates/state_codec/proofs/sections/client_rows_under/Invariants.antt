use Rattle.std.proofs.Common.{◌≡◌, [], drop}
use Rattle.state_codec.specs.Kinds.{letter}
use Rattle.state_codec.specs.Folds.{folded, keeping}
use Rattle.state_codec.specs.Reading.{client_row}
use Rattle.state_codec.proofs.sections.client_rows_under.Given as goal

abbrev pub invariant-loop-row : goal.invariant-loop-row
invariant-loop-row l = folded (keeping (client_row (letter l.kind))) l.client_rows (drop l.row-index l.rows) ≡ folded (keeping (client_row (letter l.kind))) [] l.rows
