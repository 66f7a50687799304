-- The first rows are the state's own, and then the later ones tell.
use Rattle.std.proofs.Common.{◌≡◌, Bool, true, false, IsTrue, sym, ◌∙◌}
use Rattle.std.specs.Prelude.{◌↔◌}
use Rattle.state_codec.specs.Forms.{IsLaterForm, AreParts}
use Rattle.state_codec.proofs.Encoded.{if_ok_weaker}
use Rattle.state_codec.proofs.row_reading.are_parts.Goals as goal

apart : (b : Bool) → b ≡ false → b ≡ true → ⊥
apart b is other = absurd cc

pub returns-then-not-are_same : goal.returns-then-not-are_same
returns-then-not-are_same c =
    (λ is. absurd cc, λ parts. absurd (apart c.are_same.result c.if-not-are_same.true (c.are_same.ensures.1 (parts.first_are ∙ sym (c.as_slice.ensures ∙ c.in_ok-own.ensures)))))

pub returns : goal.returns
returns c =
    let s = c.args.state.now in
    let first = c.args.first.now in
    let later = c.args.later.now in
    if_ok_weaker (λ (are : Bool). IsTrue are ↔ IsLaterForm s later) (λ (are : Bool). IsTrue are ↔ AreParts s first later) c.is_later_form.result
    (λ are form. (λ yes. record { first_are = c.are_same.ensures.0 c.if-not-are_same.false ∙ c.as_slice.ensures ∙ c.in_ok-own.ensures; later_are = form.0 yes }, λ parts. form.1 parts.later_are))
    c.is_later_form.ensures
