use Rattle.pref_bindings.proofs.UserMaps.{sets_own}
use Rattle.pref_bindings.proofs.laws.user_sets_own.Goals as goal

pub returns : goal.returns
returns c = sets_own
