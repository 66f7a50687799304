-- Rows are a form of a state exactly where those before the row of the id and those from it on are its parts.
use Rattle.enrol_states.specs.declared.state.State.{State}
use Rattle.state_codec.specs.Forms.{IsForm, AreParts}
use Rattle.state_codec.specs.Sound.{IsSound}
use Rattle.state_codec.proofs.Parts.{form_where, parts_where}
use Rattle.state_codec.proofs.Encoded.{if_ok_weaker}
use Rattle.state_codec.proofs.row_reading.state_of.Goals as goal

pub returns-clause-state : goal.returns-clause-state
returns-clause-state c =
    let rows = c.args.rows.now in
    let first = c.parts_of.result.0.now in
    let later = c.parts_of.result.1.now in
    if_ok_weaker (λ (s : State). IsSound s × AreParts s first later) (λ (s : State). IsSound s × IsForm s rows) c.state_of_parts.result
    (λ s is. (is.0, form_where rows first later s c.parts_of.ensures.first c.parts_of.ensures.later is.1)) c.state_of_parts.ensures.state

pub returns-clause-not_a_state : goal.returns-clause-not_a_state
returns-clause-not_a_state c none s sound form =
    let rows = c.args.rows.now in
    let first = c.parts_of.result.0.now in
    let later = c.parts_of.result.1.now in
    c.state_of_parts.ensures.not_a_state none s sound (parts_where rows first later s c.parts_of.ensures.first c.parts_of.ensures.later form)
