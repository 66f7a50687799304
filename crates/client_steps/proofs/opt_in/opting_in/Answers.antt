-- The branch is taken, or another recipe holds a feature.
use Rattle.std.proofs.Common.{◌≡◌, ap, refl, subst, Err}
use Rattle.enrol_states.specs.Choices.{OptsIn}
use Rattle.enrol_states.specs.Commands.{after_opt_in}
use Rattle.enrol_states.specs.declared.choices.OptInFault.{OptInFault}
use Rattle.client_state.specs.Changes.{of_next_state}
use Rattle.client_state.proofs.NextStates.{is_change}
use Rattle.client_steps.specs.Asked.{asked_outcome, FollowsFrom}
use Rattle.client_steps.specs.Steps.{enrolling, opting_in}
use Rattle.client_steps.specs.declared.asked.Asked.{Asked}
use Rattle.client_steps.specs.declared.session.Session.{Session}
use Rattle.client_steps.proofs.Asking.{asked_as}
use Rattle.client_steps.proofs.Takers.{taken_in, refused_for}
use Rattle.client_steps.proofs.opt_in.opting_in.Goals as goal

pub returns-in-Ok-clause-asks : goal.returns-in-Ok-clause-asks
returns-in-Ok-clause-asks c =
    let s = c.args.state.now in
    let slug = c.args.slug.now in
    let branch = c.args.branch.now in
    let found = c.in-Ok.ensures.answer in
    asked_as (λ (asked : Asked). (session : Session) → asked_outcome s session asked ≡ enrolling s session (opting_in s.enrolment session slug branch)) _ c.chosen.result c.chosen.ensures
    (λ session. ap (enrolling s session) (taken_in s.enrolment session slug branch found.0 found.1 c.in-Ok.next.state found.2 found.3))

pub returns-in-Err-FeatureTaken-clause-asks : goal.returns-in-Err-FeatureTaken-clause-asks
returns-in-Err-FeatureTaken-clause-asks c session =
    let s = c.args.state.now in
    let slug = c.args.slug.now in
    let branch = c.args.branch.now in
    let found = subst (λ (fault : OptInFault). OptsIn s.enrolment slug branch (Err fault)) c.in-Err-FeatureTaken.field-0-is c.in-Err-FeatureTaken.ensures.answer in
    rw c.in-Err-FeatureTaken.field-0-is (ap (enrolling s session) (refused_for s.enrolment session slug branch found.0 found.1 c.in-Err-FeatureTaken.holder c.in-Err-FeatureTaken.feature c.requires.enrolment.row_order found.2))

pub returns-in-Ok-clause-follows : goal.returns-in-Ok-clause-follows
returns-in-Ok-clause-follows c =
    let s = c.args.state.now in
    let next = c.in-Ok.next in
    let answered = c.in-Ok.ensures in
    asked_as (FollowsFrom s) _ c.chosen.result c.chosen.ensures
    (is_change s next (after_opt_in s.enrolment c.args.slug.now c.args.branch.now) (of_next_state next) refl answered.answer.3 (record { live = refl; pending = refl }) answered.parts answered.consistent, refl)
