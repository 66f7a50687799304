use Rattle.pair_store.proofs.Unique.{one_list}
use Rattle.pair_store.proofs.laws.one_list.Goals as goal

pub returns : goal.returns
returns c = one_list
