-- The slug is opted out.
use Rattle.std.proofs.Common.{refl}
use Rattle.enrol_states.specs.Commands.{after_opt_out}
use Rattle.client_state.specs.Changes.{of_next_state}
use Rattle.client_state.proofs.NextStates.{is_change}
use Rattle.client_steps.specs.Asked.{FollowsFrom}
use Rattle.client_steps.proofs.Asking.{asked_as}
use Rattle.client_steps.proofs.opt_out.opting_out.Goals as goal

pub returns-in-Ok-clause-follows : goal.returns-in-Ok-clause-follows
returns-in-Ok-clause-follows c =
    let s = c.args.state.now in
    let next = c.in-Ok.next in
    let answered = c.in-Ok.ensures in
    asked_as (FollowsFrom s) _ c.chosen.result c.chosen.ensures
    (is_change s next (after_opt_out s.enrolment c.args.slug.now) (of_next_state next) refl answered.answer.1 (record { live = refl; pending = refl }) answered.parts answered.consistent, refl)
