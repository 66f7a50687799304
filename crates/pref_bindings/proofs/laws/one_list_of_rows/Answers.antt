use Rattle.pref_bindings.proofs.OneList.{one_list}
use Rattle.pref_bindings.proofs.laws.one_list_of_rows.Goals as goal

pub returns : goal.returns
returns c = one_list
