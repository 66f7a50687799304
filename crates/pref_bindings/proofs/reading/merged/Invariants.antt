use Rattle.pref_bindings.proofs.Merged.{IsMerged}
use Rattle.pref_bindings.proofs.reading.merged.Given as goal

abbrev pub invariant-loop-row : goal.invariant-loop-row
invariant-loop-row l = IsMerged l.holds l.values l.preferences l.rest l.row-index
