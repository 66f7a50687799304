use Rattle.std.proofs.Common.{rules, ◌≡◌, sym, subst}
use Rattle.enrol_states.specs.Consistent.{IsConsistent}
use Rattle.enrol_states.specs.Commands.{after_participate}
use Rattle.enrol_states.specs.declared.state.State.{State}
use Rattle.enrol_states.proofs.Participations.{consistent}
use Rattle.enrol_states.proofs.participation.participate.Goals as goal

abbrev next : goal.After-switched-2 → State
next c = record c.in_ok-next.next { experiments = c.switched.result; rollouts = c.switched-2.result }

is_after : (c : goal.After-switched-2) → next c ≡ after_participate c.args.state.now c.args.kinds c.args.on
is_after c = search rules

pub returns-clause-consistent : goal.returns-clause-consistent
returns-clause-consistent c = subst IsConsistent (sym (is_after c)) (consistent c.args.state.now c.args.kinds c.args.on c.requires)
