-- The changes up to the number are dropped, or no change has it.
use Rattle.std.proofs.Common.{◌≡◌, ◌≤◌, Err, ap, ◌∙◌, refl, arith}
use Rattle.client_words.specs.declared.answer.Answer.TheVariants.{Okay}
use Rattle.client_steps.specs.Asked.{asked_outcome, changed_outcome, FollowsFrom}
use Rattle.client_steps.specs.Steps.{confirming}
use Rattle.client_steps.specs.declared.asked.Asked.{Asked}
use Rattle.client_steps.specs.declared.session.Session.{Session}
use Rattle.client_steps.proofs.Asking.{asked_as}
use Rattle.client_steps.proofs.Confirmations.{confirms_as, confirms_part, refuses_as}
use Rattle.client_steps.proofs.confirm.confirming.Goals as goal

pub returns-in-Ok-clause-asks : goal.returns-in-Ok-clause-asks
returns-in-Ok-clause-asks c =
    let s = c.args.state.now in
    let known : s.outbox.next ≤ c.args.number → ⊥ = λ least. (let clash = (c.in-Ok.ensures.none s.outbox.next).1 (refl, least) in absurd cc) in
    asked_as (λ (asked : Asked). (session : Session) → asked_outcome s session asked ≡ confirming s session c.args.number) _ c.new_state.result c.new_state.ensures
    (λ session. ap (λ change. changed_outcome s session change Okay) c.of_outbox-change.ensures
    ∙ confirms_as s session c.args.number s.outbox c.in-Ok.outbox refl c.in-Ok.ensures.ok (omega (arith, known)))

pub returns-in-Ok-clause-follows : goal.returns-in-Ok-clause-follows
returns-in-Ok-clause-follows c =
    let s = c.args.state.now in
    asked_as (FollowsFrom s) _ c.new_state.result c.new_state.ensures
    (confirms_part s c.args.number c.in-Ok.outbox c.of_outbox-change.result c.next.ensures.sound c.in-Ok.ensures.ok c.of_outbox-change.ensures)

pub returns-in-Err-NoSuchChange-clause-asks : goal.returns-in-Err-NoSuchChange-clause-asks
returns-in-Err-NoSuchChange-clause-asks c session =
    let s = c.args.state.now in
    let found = (c.in-Err-NoSuchChange.ensures.none c.in-Err-NoSuchChange.next).0 (ap Err c.in-Err-NoSuchChange.field-0-is) in
    rw c.in-Err-NoSuchChange.field-0-is (refuses_as s session c.args.number s.outbox c.in-Err-NoSuchChange.next refl found.0 found.1)
