use Rattle.std.proofs.Common.{◌≡◌, drop}
use Rattle.fml_merge.specs.Faults.{bad_entry}
use Rattle.fml_merge.proofs.defaults.bad_entry.Given as goal

abbrev pub invariant-loop-index : goal.invariant-loop-index
invariant-loop-index l = bad_entry l.types l.variables l.index (drop l.index l.entries) ≡ bad_entry l.types l.variables 0 l.entries
