use Rattle.std.proofs.Common.{true}
use Rattle.row_batches.proofs.Keeping.{none_rule}
use Rattle.row_batches.proofs.batch.Batch.clear.Goals as goal

pub invariant_of-result : goal.invariant_of-result
invariant_of-result c = none_rule true c.new.result c.new.ensures
