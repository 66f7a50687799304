use Rattle.enrol_conflicts.proofs.Pass.{Passed}
use Rattle.enrol_conflicts.proofs.Holding.{Holds}
use Rattle.enrol_conflicts.proofs.settlement.settle.Given as goal

abbrev pub invariant-loop-place : goal.invariant-loop-place
invariant-loop-place l = Passed l.candidates l.coenrolling l.order l.granted.items l.place-index × Holds l.coenrolling l.candidates l.granted.items l.held
