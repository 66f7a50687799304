use Rattle.std.proofs.Common.{◌≡◌, map, take}
use Rattle.enrol_states.specs.Commands.{row_left}
use Rattle.enrol_states.proofs.participation.rows_left.Given as goal

abbrev pub invariant-loop-row : goal.invariant-loop-row
invariant-loop-row l = l.rows ≡ map (row_left l.fn.state l.fn.kinds) (take l.row-index l.row-items)
