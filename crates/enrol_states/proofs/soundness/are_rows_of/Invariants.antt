use Rattle.std.proofs.Common.{All, take}
use Rattle.enrol_states.specs.SoundParts.{IsRowOf}
use Rattle.enrol_states.proofs.soundness.are_rows_of.Given as goal

abbrev pub invariant-loop-row : goal.invariant-loop-row
invariant-loop-row l = All (IsRowOf l.state) (take l.row-index l.rows)
