use Rattle.std.proofs.Common.{◌≡◌, ◌+◌, take}
use Rattle.pref_bindings.proofs.RowSizes.{preferences_size}
use Rattle.pref_bindings.proofs.size.preferences_size.Given as goal

abbrev pub invariant-loop-preference : goal.invariant-loop-preference
invariant-loop-preference l = record { left : l.left + preferences_size (take l.preference-index l.preferences) ≡ l.most }
