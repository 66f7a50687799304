-- Bytes whose batch makes no form of a state are encoded by none.
use Rattle.std.proofs.Common.{Err, ap, arith}
use Rattle.enrol_states.specs.declared.state.State.{State}
use Rattle.row_batches.specs.declared.fault.BatchFault.{BatchFault}
use Rattle.row_batches.specs.Batch.{whole_of}
use Rattle.state_codec.specs.Forms.{IsEncoded, MakesForm}
use Rattle.state_codec.specs.Sound.{IsSound}
use Rattle.state_codec.proofs.Forms.{form_rule, encoded_size, text_of_form}
use Rattle.state_codec.proofs.Encoded.{made_encoded, encoded_makes, if_ok_weaker}
use Rattle.state_codec.proofs.reading.read_state.Goals as goal

pub returns-then-bytes-gt-MAX_STATE_BYTES-clause-not_a_state : goal.returns-then-bytes-gt-MAX_STATE_BYTES-clause-not_a_state
returns-then-bytes-gt-MAX_STATE_BYTES-clause-not_a_state c _ s sound is = omega (arith, encoded_size s c.args.bytes.now is, sound.size, c.if-bytes-gt-MAX_STATE_BYTES.true)

pub returns-in-Ok-clause-state : goal.returns-in-Ok-clause-state
returns-in-Ok-clause-state c =
    if_ok_weaker (λ (s : State). IsSound s × MakesForm s c.in-Ok.batch) (λ (s : State). IsSound s × IsEncoded s c.args.bytes.now) c.state_made.result
    (λ s is. (is.0, made_encoded s c.args.bytes.now c.in-Ok.batch c.in-Ok.ensures.batch is.1)) c.state_made.ensures.state

pub returns-in-Ok-clause-not_a_state : goal.returns-in-Ok-clause-not_a_state
returns-in-Ok-clause-not_a_state c none s sound is =
    c.state_made.ensures.not_a_state none s sound (encoded_makes s c.args.bytes.now c.in-Ok.batch c.in-Ok.ensures.batch c.in-Ok.ensures.rules sound is)

pub returns-in-Err-NotABatch-clause-not_a_state : goal.returns-in-Err-NotABatch-clause-not_a_state
returns-in-Err-NotABatch-clause-not_a_state c _ s sound is =
    let t = text_of_form s c.args.bytes.now is in
    c.in-Err-NotABatch.ensures.not_a_batch (ap (λ (fault : BatchFault). Err fault) c.in-Err-NotABatch.field-0-is) (whole_of t.rows) (form_rule s t.rows sound t.form) t.text
