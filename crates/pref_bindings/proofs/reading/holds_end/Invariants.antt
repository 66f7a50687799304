use Rattle.std.proofs.Common.{take}
use Rattle.pref_bindings.specs.Reading.{AreHolds}
use Rattle.pref_bindings.proofs.reading.holds_end.Given as goal

abbrev pub invariant-loop-place : goal.invariant-loop-place
invariant-loop-place l = record { holds : AreHolds (take l.place l.rows) }
