use Rattle.std.proofs.Common.{◌≡◌, ◌++◌, length}
use Rattle.enrol_evolver.proofs.SettledRows.{rows_by, wish_count}
use Rattle.enrol_evolver.proofs.settling.settled_rows.Given as goal

abbrev pub invariant-loop-entry : goal.invariant-loop-entry
invariant-loop-entry l = record {
  rows : l.rows ++ rows_by l.entry-iterator.rest.items l.left ≡ rows_by l.fn.plan.entries l.granted;
  left : wish_count l.entry-iterator.rest.items ≡ length l.left;
}
