use Rattle.std.proofs.Common.{◌≡◌, ◌≢◌, pos, ◌-ℤ◌, FitsSigned, w64, to_z, of_z, sym, ap, ◌∙◌, subst, inl, inr}
use Rattle.std.proofs.lemmas.Int.{to_z-of_z}
use Rattle.std.specs.Prelude.{int_rem, int_lt}
use Rattle.jexl_eval.specs.Numbers.{floor_quotient}
use Rattle.jexl_eval.proofs.Quotients.{floor_less, floor_same, floor_fits, fits_in_range, apart, alike}
use Rattle.jexl_eval.proofs.arithmetic.floored.Goals as goal
use Rattle.jexl_eval.proofs.arithmetic.floored.Goals.{else-rest-ne0-via-then-rest-ne0+else-rest-right, else-rest-ne0-via-else-rest-ne0}

pub returns-then-rest-right : goal.returns-then-rest-right
returns-then-rest-right c =
    let left : FitsSigned w64 c.args.left = c.ranges.left in
    let right : FitsSigned w64 c.args.right = c.ranges.right in
    let last : FitsSigned w64 c.wrapping_rem-rest.result = record { sfits = c.wrapping_rem-rest.type_inv } in
    let a = simp to_z-of_z at c.in-Some.ensures in
    let b = simp to_z-of_z at c.wrapping_rem-rest.ensures in
    let e = simp to_z-of_z at c.if-rest-right.true in
    let q = c.in-Some.quotient in
    let some : int_rem c.args.left c.args.right ≢ pos 0 = λ none. c.if-rest-ne0.true (ap (of_z w64) (b ∙ none)) in
    let sides : int_lt (int_rem c.args.left c.args.right) (pos 0) ≢ int_lt c.args.right (pos 0) = subst (λ z. int_lt z (pos 0) ≢ int_lt c.args.right (pos 0)) b (apart _ _ e) in
    let whole : FitsSigned w64 q = subst (FitsSigned w64) (sym a.1) a.0.1 in
    let less : floor_quotient c.args.left c.args.right ≡ q -ℤ pos 1 = floor_less c.args.left c.args.right c.requires some sides ∙ ap (λ z. z -ℤ pos 1) (sym a.1) in
    let fits : FitsSigned w64 (q -ℤ pos 1) = subst (FitsSigned w64) less (floor_fits c.args.left c.args.right left c.requires some sides) in
    rw (to_z-of_z w64 q whole, to_z-of_z w64 (q -ℤ pos 1) fits, less) (fits_in_range (q -ℤ pos 1) fits)

pub returns-else-rest-ne0 : goal.returns-else-rest-ne0
returns-else-rest-ne0 c =
    let left : FitsSigned w64 c.args.left = c.ranges.left in
    let right : FitsSigned w64 c.args.right = c.ranges.right in
    let last : FitsSigned w64 c.wrapping_rem-rest.result = record { sfits = c.wrapping_rem-rest.type_inv } in
    let a = simp to_z-of_z at c.in-Some.ensures in
    let b = simp to_z-of_z at c.wrapping_rem-rest.ensures in
    let q = c.in-Some.quotient in
    let whole : FitsSigned w64 q = subst (FitsSigned w64) (sym a.1) a.0.1 in
    let same : floor_quotient c.args.left c.args.right ≡ q =
    elim c.else-rest-ne0.branch [
      | else-rest-ne0-via-then-rest-ne0+else-rest-right w ↦ (
          let e = simp to_z-of_z at w.if-rest-right.false in
          floor_same c.args.left c.args.right c.requires (inr (subst (λ z. int_lt z (pos 0) ≡ int_lt c.args.right (pos 0)) b (alike _ _ e))) ∙ sym a.1)
      | else-rest-ne0-via-else-rest-ne0 w ↦ (
          let none : c.wrapping_rem-rest.result ≡ pos 0 = sym (to_z-of_z w64 _ last) ∙ ap (to_z w64) w.if-rest-ne0.false in
          floor_same c.args.left c.args.right c.requires (inl (sym b ∙ none)) ∙ sym a.1)
    ] in
    rw (to_z-of_z w64 q whole, same) (fits_in_range q whole)
