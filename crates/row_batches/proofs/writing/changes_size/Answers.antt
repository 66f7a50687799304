use Rattle.std.proofs.Common.{arith}
use Rattle.row_batches.proofs.Texts.{size_more}
use Rattle.row_batches.proofs.writing.changes_size.Goals as goal

pub loop-change-preserved : goal.loop-change-preserved
loop-change-preserved c = record {
  size = omega (arith, c.loop-change.invariant.size, size_more c.args.changes.now c.loop-change.change-index c.change-item.result c.loop-change-test.true c.change-item.is, c.change_size-size.ensures.size);
  bound = omega (arith, c.loop-change.invariant.bound, c.change_size-size.ensures.bound);
}
