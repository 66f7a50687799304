use Rattle.std.proofs.Common.{◌≡◌, drop}
use Rattle.state_codec.specs.Kinds.{letter}
use Rattle.state_codec.specs.Reading.{value_under}
use Rattle.state_codec.proofs.sections.value_under.Given as goal

abbrev pub invariant-loop-row : goal.invariant-loop-row
invariant-loop-row l = value_under (letter l.kind) (drop l.row-index l.rows) ≡ value_under (letter l.kind) l.rows
