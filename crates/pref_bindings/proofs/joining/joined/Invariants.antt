use Rattle.std.proofs.Common.{◌≡◌, ◌++◌, ◌+◌, length}
use Rattle.pref_bindings.specs.Changes.{joined}
use Rattle.pref_bindings.specs.Joining.{AreInOrder}
use Rattle.pref_bindings.proofs.joining.joined.Given as goal

abbrev pub invariant-loop-step : goal.invariant-loop-step
invariant-loop-step l = record {
  joined : l.joined ++ joined l.slug l.sets l.olds ≡ joined l.slug l.settings l.preferences;
  order : AreInOrder l.olds l.sets;
}

abbrev pub decreases-loop-step : goal.decreases-loop-step
decreases-loop-step l = length l.olds + length l.sets
