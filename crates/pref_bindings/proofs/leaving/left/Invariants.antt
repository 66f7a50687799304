use Rattle.std.proofs.Common.{◌≡◌, take}
use Rattle.pref_bindings.specs.Changes.{left}
use Rattle.pref_bindings.proofs.leaving.left.Given as goal

abbrev pub invariant-loop-preference : goal.invariant-loop-preference
invariant-loop-preference l = record { left : l.left ≡ left l.slug (take l.preference-index l.preferences) }
