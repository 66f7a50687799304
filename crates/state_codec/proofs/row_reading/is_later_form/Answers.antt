-- The row `p` tells which form they may be.
use Rattle.std.proofs.Common.{Bool, IsTrue, inl, inr, sym, ◌∙◌}
use Rattle.std.specs.Prelude.{◌↔◌}
use Rattle.state_codec.specs.Forms.{IsLaterForm, IsOldLater}
use Rattle.state_codec.proofs.Forms.{old_later_where, new_later_where}
use Rattle.state_codec.proofs.Encoded.{if_ok_weaker}
use Rattle.state_codec.proofs.row_reading.is_later_form.Goals as goal

pub returns-then-has_old : goal.returns-then-has_old
returns-then-has_old c =
    let s = c.args.state.now in
    let later = c.args.later.now in
    if_ok_weaker (λ (is : Bool). IsTrue is ↔ IsOldLater s later) (λ (is : Bool). IsTrue is ↔ IsLaterForm s later) c.is_old_later.result
    (λ is old. (λ yes. inr (old.0 yes), λ form. old.1 (old_later_where later s (sym c.has_old.ensures ∙ c.if-has_old.true) form))) c.is_old_later.ensures

pub returns : goal.returns
returns c =
    let s = c.args.state.now in
    let later = c.args.later.now in
    (λ yes. inl (c.are_same.ensures.0 yes ∙ c.as_slice.ensures ∙ c.in_ok-own.ensures), λ form. c.are_same.ensures.1 (new_later_where later s (sym c.has_old.ensures ∙ c.if-has_old.false) form ∙ sym (c.as_slice.ensures ∙ c.in_ok-own.ensures)))
