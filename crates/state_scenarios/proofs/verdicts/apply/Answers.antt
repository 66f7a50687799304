use Rattle.std.proofs.Common.{sym, subst}
use Rattle.std.specs.List.Sorted.{IsStrictlySortedBy}
use Rattle.enrol_states.specs.Order.{Rise}
use Rattle.state_scenarios.proofs.verdicts.apply.Goals as goal

pub evolve-requires-clause-order : goal.evolve-requires-clause-order
unfolding IsStrictlySortedBy
evolve-requires-clause-order g c = subst Rise (sym c.new.ensures) tt
