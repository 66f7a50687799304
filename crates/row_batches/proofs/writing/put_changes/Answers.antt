use Rattle.row_batches.proofs.Texts.{put_more}
use Rattle.row_batches.proofs.writing.put_changes.Goals as goal

pub loop-change-preserved : goal.loop-change-preserved
loop-change-preserved c =
    put_more c.args.changes.now c.loop-change.change-index c.change-item.result c.args.bytes.now.items c.loop-change.bytes.items c.loop-change-test.true c.change-item.is c.loop-change.invariant c.in_ok-put_change.ensures
