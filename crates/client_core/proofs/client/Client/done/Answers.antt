-- What is asked for is done as it was found.
use Rattle.std.proofs.Common.{sym, subst}
use Rattle.std.specs.Prelude.{IfOk}
use Rattle.client_steps.specs.declared.asked.Asked.{Asked}
use Rattle.client_steps.specs.Asked.{asked_outcome, answer_for, IsAnswerOrRefused}
use Rattle.client_core.specs.Prepared.{Leads, answer_in}
use Rattle.client_steps.specs.Steps.{done}
use Rattle.client_core.proofs.client.Client.done.Goals as goal

pub returns-in-NewState-clause-step : goal.returns-in-NewState-clause-step
returns-in-NewState-clause-step c =
    let s = c.args.self.now.store.state in
    let session = c.args.self.now.session in
    subst (λ (asked : Asked). IfOk c.changed.result (λ prepared. Leads c.changed.new.self prepared (done s session (asked_outcome s session asked)))) (sym c.in-NewState.is) c.changed.ensures.step

pub returns-in-NewState-clause-answer : goal.returns-in-NewState-clause-answer
returns-in-NewState-clause-answer c =
    subst (λ (asked : Asked). IfOk c.changed.result (λ prepared. IsAnswerOrRefused (answer_for asked) (answer_in prepared))) (sym c.in-NewState.is) c.changed.ensures.answer

pub returns-in-Followed-clause-step : goal.returns-in-Followed-clause-step
returns-in-Followed-clause-step c =
    let s = c.args.self.now.store.state in
    let session = c.args.self.now.session in
    subst (λ (asked : Asked). IfOk c.changed_to.result (λ prepared. Leads c.changed_to.new.self prepared (done s session (asked_outcome s session asked)))) (sym c.in-Followed.is) c.changed_to.ensures.step

pub returns-in-Followed-clause-answer : goal.returns-in-Followed-clause-answer
returns-in-Followed-clause-answer c =
    subst (λ (asked : Asked). IfOk c.changed_to.result (λ prepared. IsAnswerOrRefused (answer_for asked) (answer_in prepared))) (sym c.in-Followed.is) c.changed_to.ensures.answer
