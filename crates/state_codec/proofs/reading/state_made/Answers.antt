-- The rows that the batch makes are a form of the state.
use Rattle.std.proofs.Common.{◌≡◌, true, [], sym, ◌∙◌}
use Rattle.enrol_states.specs.declared.state.State.{State}
use Rattle.row_batches.specs.Rows.{after_changes}
use Rattle.state_codec.specs.Forms.{IsForm, MakesForm}
use Rattle.state_codec.specs.Sound.{IsSound}
use Rattle.state_codec.proofs.Encoded.{made_rows, makes, form_made, if_ok_weaker}
use Rattle.state_codec.proofs.reading.state_made.Goals as goal

pub returns-clause-state : goal.returns-clause-state
returns-clause-state c =
    let clear : c.args.batch.clear ≡ true = sym c.is_clear.ensures ∙ c.if-not-is_clear.false in
    let made : c.as_slice.result.now ≡ after_changes c.args.batch.changes [] = made_rows c.args.batch c.reserve.new.self.rows c.apply.new.self.rows c.as_slice.result.now clear c.apply.ensures.rows c.as_slice.ensures.rows in
    if_ok_weaker (λ (s : State). IsSound s × IsForm s c.as_slice.result.now) (λ (s : State). IsSound s × MakesForm s c.args.batch) c.state_of.result
    (λ s is. (is.0, makes s c.args.batch c.as_slice.result.now c.changes.ensures.rules clear made is.1)) c.state_of.ensures.state

pub returns-clause-not_a_state : goal.returns-clause-not_a_state
returns-clause-not_a_state c none s sound is =
    let clear : c.args.batch.clear ≡ true = sym c.is_clear.ensures ∙ c.if-not-is_clear.false in
    let made : c.as_slice.result.now ≡ after_changes c.args.batch.changes [] = made_rows c.args.batch c.reserve.new.self.rows c.apply.new.self.rows c.as_slice.result.now clear c.apply.ensures.rows c.as_slice.ensures.rows in
    c.state_of.ensures.not_a_state none s sound (form_made s c.args.batch c.as_slice.result.now sound.consistent made is)
