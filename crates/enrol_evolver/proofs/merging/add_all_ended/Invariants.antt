use Rattle.std.proofs.Common.{◌≡◌, ◌++◌, take, filter_map}
use Rattle.enrol_evolver.specs.Evolution.{ended_row}
use Rattle.enrol_evolver.proofs.merging.add_all_ended.Given as goal

abbrev pub invariant-loop-row : goal.invariant-loop-row
invariant-loop-row l = l.rows ≡ l.fn.rows ++ filter_map (ended_row l.client.context.now l.client.state.now l.client.moment) (take l.row-index l.old)
