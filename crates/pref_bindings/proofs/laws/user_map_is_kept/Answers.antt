use Rattle.pref_bindings.proofs.UserMaps.{join_keeps, leave_keeps}
use Rattle.pref_bindings.proofs.laws.user_map_is_kept.Goals as goal

pub returns-clause-join : goal.returns-clause-join
returns-clause-join c = join_keeps

pub returns-clause-leave : goal.returns-clause-leave
returns-clause-leave c = leave_keeps
