use Rattle.std.proofs.Common.{ap, ap₂, sym, ◌∙◌, subst}
use Rattle.std.specs.Prelude.{IsUtf8}
use Rattle.enrol_states.specs.Consistent.{IsConsistent}
use Rattle.enrol_states.specs.declared.state.State.{State}
use Rattle.enrol_evolver.specs.Evolution.{evolution, rows_after}
use Rattle.enrol_evolver.proofs.Consistency.{evolved}
use Rattle.enrol_evolver.proofs.evolution.evolve.Goals as goal

pub returns-clause-evolution : goal.returns-clause-evolution
unfolding evolution
returns-clause-evolution g c =
    ap₂ (λ (s : State) rows. record s { rows = rows }) c.in_ok-next.ensures.state (c.in_ok-next-2.ensures ∙ ap (λ s. rows_after c.args.context.now s c.args.now) c.in_ok-next.ensures.state)

pub returns-clause-consistent : goal.returns-clause-consistent
returns-clause-consistent g c =
    let utf8 = subst IsUtf8 (ap (λ (s : State). s.version) c.in_ok-next.ensures.state) c.in_ok-next.ensures.version in
    subst IsConsistent (sym (returns-clause-evolution g c)) (evolved c.args.state.now c.args.context.now c.args.coenrolling c.args.now c.requires.consistent c.requires.names c.requires.order c.requires.moment utf8)

pub returns-clause-exclusive : goal.returns-clause-exclusive
returns-clause-exclusive g c = (returns-clause-consistent g c).exclusive
