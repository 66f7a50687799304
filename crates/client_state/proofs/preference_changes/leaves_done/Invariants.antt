use Rattle.std.proofs.Common.{◌≡◌, drop}
use Rattle.std.specs.Option.{unwrap_or}
use Rattle.client_state.specs.Following.{leaves_done}
use Rattle.client_state.proofs.preference_changes.leaves_done.Given as goal

abbrev pub invariant-loop-change : goal.invariant-loop-change
invariant-loop-change l = leaves_done (drop l.change-index l.fn.changes) (unwrap_or l.left l.fn.preferences) ≡ leaves_done l.fn.changes l.fn.preferences
