-- One row more.
use Rattle.std.proofs.Common.{arith}
use Rattle.state_codec.proofs.SameRows.{same_more}
use Rattle.state_codec.proofs.row_reading.are_same.Goals as goal

pub loop-place-preserved : goal.loop-place-preserved
loop-place-preserved c =
    same_more c.args.left.now c.args.right.now c.loop-place.place c.index-left-place.result c.index-right-place.result (omega arith) (omega arith) c.index-left-place.is c.index-right-place.is c.loop-place.invariant (c.is_same.ensures.0 c.if-not-is_same.false)
