use Rattle.std.proofs.Common.{take}
use Rattle.pref_bindings.specs.Preferences.{AreHeld}
use Rattle.pref_bindings.proofs.prefs.Prefs.are_held.Given as goal

abbrev pub invariant-loop-value : goal.invariant-loop-value
invariant-loop-value l = record { held : AreHeld (take l.value-index l.values) l.self }
