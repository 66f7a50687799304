use Rattle.enrol_states.specs.Consistent.{IsConsistent}
use Rattle.state_scenarios.proofs.choices.opt_out_of_all.Given as goal

abbrev pub invariant-loop-number : goal.invariant-loop-number
invariant-loop-number l = IsConsistent l.state
