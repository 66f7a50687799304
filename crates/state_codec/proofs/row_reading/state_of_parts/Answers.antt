-- Rows of which no state is read are a form of none.
use Rattle.std.proofs.Common.{◌≡◌, Bool, false, true, Result, Err, subst}
use Rattle.std.proofs.lemmas.Result.{err_from_is_err_and}
use Rattle.enrol_states.specs.declared.state.State.{State}
use Rattle.state_codec.specs.Reading.{state_in}
use Rattle.state_values.specs.Outcome.{Fails}
use Rattle.state_codec.specs.Sound.{IsSound}
use Rattle.state_codec.specs.Forms.{AreParts}
use Rattle.state_codec.proofs.Forms.{parts_read}
use Rattle.state_values.specs.declared.fault.CodecFault.{CodecFault}
use Rattle.state_values.specs.declared.fault.CodecFault.TheVariants.{NotAState}
use Rattle.state_codec.proofs.Encoded.{not_read, one_state}
use Rattle.state_codec.proofs.row_reading.state_of_parts.Goals as goal

fault_is : (r : Result State CodecFault) (e d f : CodecFault) → r ≡ Err e → e ≡ d → r ≡ Err f → d ≡ f
fault_is r e d f is same other = cc

pub returns-in_err-state-clause-not_a_state : goal.returns-in_err-state-clause-not_a_state
returns-in_err-state-clause-not_a_state c none s sound is =
    let p = err_from_is_err_and c.from_residual.result c.from_residual.ensures.1 in
    let fault = fault_is c.from_residual.result p.0 c.in_err-state.field-0.0 NotAState p.1 p.2 none in
    let first = c.args.first.now in
    let later = c.args.later.now in
    not_read first later s (subst (λ (f : CodecFault). Fails f (state_in first later)) fault c.in_err-state.ensures.state) (parts_read first later s sound is)

apart : (b : Bool) → b ≡ false → b ≡ true → ⊥
apart b is other = absurd cc

pub returns-else-branch-clause-not_a_state : goal.returns-else-branch-clause-not_a_state
returns-else-branch-clause-not_a_state c none s sound is =
    let first = c.args.first.now in
    let later = c.args.later.now in
    let same = one_state first later s c.in_ok-state.state (parts_read first later s sound is) c.in_ok-state.ensures.state in
    apart c.in_ok-has_rows.field-0 c.if-branch.false (c.in_ok-has_rows.ensures.1 (subst IsSound same sound, subst (λ (t : State). AreParts t first later) same is))
