-- A client that already takes part stays as it is.
use Rattle.std.proofs.Common.{◌≡◌, Bool, ◌∙◌, ap}
use Rattle.enrol_states.specs.Commands.{after_participate}
use Rattle.client_steps.specs.Asked.{asked_outcome}
use Rattle.client_steps.proofs.TakingPart.{same_asked}
use Rattle.client_steps.proofs.participate.participating.Goals as goal

pub returns-then-takes_part-clause-asks : goal.returns-then-takes_part-clause-asks
returns-then-takes_part-clause-asks c =
    let s = c.args.state.now in
    let kinds = c.args.kinds in
    let same : after_participate s.enrolment kinds c.args.on ≡ s.enrolment = ap (λ (on : Bool). after_participate s.enrolment kinds on) c.if-on.true ∙ c.takes_part.ensures.0 c.if-takes_part.true in
    λ session. ap (asked_outcome s session) c.same.ensures ∙ same_asked s session c.requires (after_participate s.enrolment kinds c.args.on) same
