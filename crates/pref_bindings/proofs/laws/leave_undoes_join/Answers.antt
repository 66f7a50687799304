use Rattle.pref_bindings.proofs.UserMaps.{undone}
use Rattle.pref_bindings.proofs.laws.leave_undoes_join.Goals as goal

pub returns : goal.returns
returns c = undone
