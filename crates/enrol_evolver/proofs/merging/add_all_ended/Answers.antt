use Rattle.enrol_evolver.proofs.MergedRows.{ended-more}
use Rattle.enrol_evolver.proofs.merging.add_all_ended.Goals as goal

pub loop-row-preserved : goal.loop-row-preserved
loop-row-preserved c =
    let client = c.args.client.now in
    ended-more client.context.now client.state.now client.moment c.args.old.now c.loop-row.row-index c.row-item.result _ _ _ c.loop-row-test.true c.row-item.is c.loop-row.invariant c.in_ok-add_ended.ensures
