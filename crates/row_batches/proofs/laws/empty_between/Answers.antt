use Rattle.row_batches.proofs.Walks.{empty_between}
use Rattle.row_batches.proofs.laws.empty_between.Goals as goal

pub returns : goal.returns
returns c = empty_between
