use Rattle.change_outbox.proofs.OneList.{one_list}
use Rattle.change_outbox.proofs.laws.one_list_of_rows.Goals as goal

pub returns : goal.returns
returns c = one_list
