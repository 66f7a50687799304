use Rattle.row_store.proofs.Folds.{one_map}
use Rattle.row_store.proofs.laws.one_map.Goals as goal

pub returns : goal.returns
returns c = one_map
