use Rattle.std.proofs.Common.{◌≡◌, ◌++◌}
use Rattle.enrol_evolver.proofs.MergedRows.{merged}
use Rattle.enrol_evolver.proofs.merging.merged_rows.Given as goal

abbrev pub invariant-loop-row : goal.invariant-loop-row
invariant-loop-row l =
    l.rows ++ merged l.client.context.now l.client.state.now l.client.moment l.row-iterator.rest.items l.old
    ≡ merged l.client.context.now l.client.state.now l.client.moment l.fn.live l.client.state.now.rows
