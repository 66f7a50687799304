use Rattle.enrol_states.specs.Consistent.{IsConsistent}
use Rattle.state_scenarios.proofs.verdicts.do_lines.Given as goal

abbrev pub invariant-loop-line : goal.invariant-loop-line
invariant-loop-line g l = IsConsistent l.state × (goal.iterator-loop-line g).can_next l.line-iterator × (goal.iterator-loop-line g).is_finite l.line-iterator
