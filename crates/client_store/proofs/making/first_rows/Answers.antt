-- The state of a new store is sound.
use Rattle.std.proofs.Common.{◌≡◌, ◌<◌, ◌^◌, ◌∙◌, [], length, ap, sym, subst, arith, IfOk}
use Rattle.enrol_states.specs.Consistent as states
use Rattle.row_batches.specs.Batch.{whole_of, applied, batch_text}
use Rattle.state_codec.proofs.Fresh.{fresh_is_sound}
use Rattle.client_state.specs.declared.client_state.ClientState.{ClientState}
use Rattle.client_state.specs.Parts.{with_empty_parts}
use Rattle.client_state.specs.Sound.{IsConsistent, IsSound}
use Rattle.client_state.specs.Encoding.{rows_of, encoding}
use Rattle.client_state.proofs.Empty.{empty_is_sound}
use Rattle.client_store.specs.NewStates.{fresh}
use Rattle.client_store.proofs.making.first_rows.Goals.{After-new-state}
use Rattle.client_store.proofs.making.first_rows.Goals as goal

module _ (c : After-new-state) where
  is_fresh : c.new-state.result ≡ fresh c.args.id c.args.now
  is_fresh = c.new-state.ensures ∙ ap with_empty_parts c.new-enrolment.ensures.fresh

  sound : IsSound (fresh c.args.id c.args.now)
  sound = let enrolment = c.new-enrolment.ensures in empty_is_sound _ (fresh_is_sound c.args.id c.args.now (subst states.IsConsistent enrolment.fresh enrolment.consistent))

pub returns-clause-sound : goal.returns-clause-sound
returns-clause-sound c = sound (goal.at.returns-clause-sound c).After-new-state

pub whole_batch-requires-clause-state : goal.whole_batch-requires-clause-state
whole_batch-requires-clause-state c =
    let made = (goal.at.whole_batch-requires-clause-state c).After-new-state in
    subst IsConsistent (sym (is_fresh made)) (sound made).consistent

pub whole_batch-requires-clause-size : goal.whole_batch-requires-clause-size
whole_batch-requires-clause-size c =
    let made = (goal.at.whole_batch-requires-clause-size c).After-new-state in
    let is_sound = sound made in
    subst (λ (s : ClientState). length (encoding s) < 2 ^ 32) (sym (is_fresh made)) (omega (arith, is_sound.size))

pub returns-clause-rows : goal.returns-clause-rows
returns-clause-rows c = subst (λ (s : ClientState). IfOk c.whole_batch.result (λ batch. batch ≡ whole_of (rows_of s))) (is_fresh (goal.at.returns-clause-rows c).After-new-state) c.whole_batch.ensures.batch

pub returns-clause-text : goal.returns-clause-text
returns-clause-text c = subst (λ (s : ClientState). IfOk c.whole_batch.result (λ batch. batch_text batch ≡ encoding s)) (is_fresh (goal.at.returns-clause-text c).After-new-state) c.whole_batch.ensures.text

pub returns-clause-gives : goal.returns-clause-gives
returns-clause-gives c = subst (λ (s : ClientState). IfOk c.whole_batch.result (λ batch. applied batch [] ≡ rows_of s)) (is_fresh (goal.at.returns-clause-gives c).After-new-state) c.whole_batch.ensures.gives
