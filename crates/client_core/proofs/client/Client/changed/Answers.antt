-- The state and then the change were lent: the one is the same, and the other is what follows it, so the step is that of the change with what follows it.
use Rattle.std.proofs.Common.{Bool, sym, ap, ◌∙◌, subst}
use Rattle.std.specs.Prelude.{IfOk, if◌then◌else◌}
use Rattle.client_state.specs.Changes.{state_after}
use Rattle.client_state.specs.Following.{followed}
use Rattle.client_state.specs.declared.client_state.ClientState.{ClientState}
use Rattle.client_state.specs.declared.state_change.StateChange.{StateChange}
use Rattle.client_words.specs.declared.refusal.Refusal.TheVariants.{ChangesSpent}
use Rattle.client_core.specs.declared.client.Client.{Client}
use Rattle.client_core.specs.Prepared.{Leads}
use Rattle.client_steps.specs.Asked.{changed_outcome}
use Rattle.client_steps.specs.Steps.{Outcome, Accepted, Refused, done}
use Rattle.client_core.proofs.client.Client.changed.Goals as goal

pub returns-in-Ok-clause-step : goal.returns-in-Ok-clause-step
returns-in-Ok-clause-step c =
    let client = c.args.self.now in
    let s = client.store.state in
    let session = client.session in
    let answer = c.args.answer in
    let lent = c.get_mut.result.now in
    subst (λ (o : Outcome). IfOk c.changed_to.result (λ prepared. Leads c.changed_to.new.self prepared (done s session o)))
    (ap (λ (t : ClientState). Accepted t session answer) c.in-Ok.ensures.followed
    ∙ sym (ap (λ (spent : Bool). if spent then Refused ChangesSpent else Accepted (followed session.manifest session.bindings lent s) session answer) c.in-Ok.ensures.not_spent)
    ∙ ap (λ (parts : StateChange). changed_outcome s session parts answer) c.get_mut.ensures.value)
    (subst (λ (x : Client). IfOk c.changed_to.result (λ prepared. Leads c.changed_to.new.self prepared (done x.store.state x.session (Accepted (state_after c.followed.new.change x.store.state) x.session answer))))
    c.in-Ok.ensures.same c.changed_to.ensures.step)
