use Rattle.std.proofs.Common.{◌≡◌, take}
use Rattle.pref_bindings.specs.Held.{held_preferences}
use Rattle.pref_bindings.proofs.held.held_preferences.Given as goal

abbrev pub invariant-loop-preference : goal.invariant-loop-preference
invariant-loop-preference l = l.held ≡ held_preferences (take l.preference-index l.preferences)
