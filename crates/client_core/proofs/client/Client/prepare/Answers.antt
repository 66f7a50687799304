-- The step of what is asked for is that of the command.
use Rattle.std.proofs.Common.{ap, ◌∙◌, subst}
use Rattle.client_core.specs.declared.client.Client.{Client}
use Rattle.client_steps.specs.Asked.{asked_outcome, answer_for}
use Rattle.client_core.specs.Prepared.{Leads, answer_in}
use Rattle.client_steps.specs.Settings.{setting}
use Rattle.client_steps.specs.Steps.{Step, done}
use Rattle.client_steps.proofs.Stepping.{step-of}
use Rattle.client_core.proofs.Typing.{given_typed}
use Rattle.client_core.proofs.client.Client.prepare.Goals as goal

pub returns-clause-step : goal.returns-clause-step
returns-clause-step g c named =
    let s = c.args.self.now.store.state in
    let session = c.args.self.now.session in
    let asked = c.in_ok-asked.asked in
    subst (λ (to : Step). Leads c.done.new.self c.in_ok-done.field-0 to)
    (ap (λ (x : Client). done x.store.state x.session (asked_outcome x.store.state x.session asked)) c.asked.ensures.same
    ∙ step-of (setting g.F.Shelf c.args.shelf.now c.args.now) s session c.args.command.now (asked_outcome s session asked) (c.in_ok-asked.ensures.outcome named)) c.in_ok-done.ensures.step

pub returns-clause-typed : goal.returns-clause-typed
returns-clause-typed g c =
    let s = c.args.self.now.store.state in
    let session = c.args.self.now.session in
    given_typed s session c.args.command.now (answer_for c.in_ok-asked.asked) (answer_in c.in_ok-done.field-0) c.in_ok-asked.ensures.typed c.in_ok-done.ensures.answer
