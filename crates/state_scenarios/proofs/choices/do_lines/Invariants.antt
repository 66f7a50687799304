use Rattle.enrol_states.specs.Consistent.{IsConsistent}
use Rattle.state_scenarios.proofs.choices.do_lines.Given as goal

abbrev pub invariant-loop-line : goal.invariant-loop-line
invariant-loop-line l = IsConsistent l.state
