use Rattle.std.proofs.Common.{false}
use Rattle.row_batches.proofs.Keeping.{none_rule}
use Rattle.row_batches.proofs.batch.Batch.new.Goals as goal

pub invariant_of-result : goal.invariant_of-result
invariant_of-result c = none_rule false c.new.result c.new.ensures
