use Rattle.row_batches.proofs.OneEncoding.{one_encoding}
use Rattle.row_batches.proofs.laws.one_encoding.Goals as goal

pub returns : goal.returns
returns c = one_encoding
