use Rattle.pref_bindings.proofs.HeldKept.{join_kept, leave_kept, set_kept}
use Rattle.pref_bindings.proofs.laws.held_is_kept.Goals as goal

pub returns-clause-join : goal.returns-clause-join
returns-clause-join c = join_kept

pub returns-clause-leave : goal.returns-clause-leave
returns-clause-leave c = leave_kept

pub returns-clause-set : goal.returns-clause-set
returns-clause-set c = set_kept
