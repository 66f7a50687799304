-- Numbers with a sign.
use Rattle.std.proofs.Common.{◌≡◌, ℕ, Bool, cond, List, [], ◌∷◌, refl, sym, ap, subst, ◌∙◌}
use Rattle.std.specs.Char.{is_ascii_digit}
use Rattle.std.specs.Prelude.{ℤ, pos, neg_ℤ}
use Rattle.std.proofs.lemmas.Bool.{ne_eqb}
use Rattle.sequences.specs.Runs.{prepend, run}
use Rattle.version_compare.specs.Versions.{magnitude, number_after_minus, number_in_front, number_of_digits}

abbrev pub above_zero : ℕ → List ℕ → ℤ × List ℕ
above_zero value rest = (pos value, rest)

abbrev pub below_zero : ℕ → List ℕ → ℤ × List ℕ
below_zero value rest = (neg_ℤ (pos value), rest)

pub number_none : (bs : List ℕ) → bs ≡ [] → above_zero 0 bs ≡ number_in_front bs
number_none bs e = subst (λ (w : List ℕ). ◌≡◌ {A = ℤ × List ℕ} (pos 0, w) (number_in_front w)) (sym e) refl

pub number_some : (b : ℕ) (bs after rest : List ℕ) (value : ℕ) → bs ≡ b ∷ after → (b ≡ 45 → ⊥) → value ≡ magnitude (run is_ascii_digit bs).0 → rest ≡ (run is_ascii_digit bs).1 → above_zero value rest ≡ number_in_front bs
number_some b bs after rest value e n ev er =
    let x : ℤ × List ℕ = (pos value, rest) in
    let same : x ≡ number_of_digits (run is_ascii_digit bs) = ap (λ (m : ℕ). above_zero m rest) ev ∙ ap (above_zero (magnitude (run is_ascii_digit bs).0)) er in
    same ∙ ap (λ (w : List ℕ). number_of_digits (run is_ascii_digit w)) e ∙ sym (ap number_in_front e ∙ ap (λ (t : Bool). cond t (number_after_minus after (run is_ascii_digit after)) (number_of_digits (run is_ascii_digit (b ∷ after)))) (ne_eqb b 45 n))

pub minus_none : (bs after : List ℕ) → bs ≡ 45 ∷ after → run is_ascii_digit after ≡ ([], after) → above_zero 0 bs ≡ number_in_front bs
minus_none bs after e f = ap (above_zero 0) e ∙ sym (ap number_in_front e ∙ ap (number_after_minus after) f)

minus_by : (after rest : List ℕ) (value digit : ℕ) (x y : List ℕ × List ℕ) → x ≡ prepend digit y → value ≡ magnitude x.0 → rest ≡ x.1 → below_zero value rest ≡ number_after_minus after x
minus_by after rest value digit x y e ev er =
    ap (λ (m : ℕ). below_zero m rest) (ev ∙ ap (λ (z : List ℕ × List ℕ). magnitude z.0) e) ∙ ap (below_zero (magnitude (digit ∷ y.0))) (er ∙ ap (λ (z : List ℕ × List ℕ). z.1) e) ∙ sym (ap (number_after_minus after) e)

pub minus_some : (bs after rest : List ℕ) (value digit : ℕ) (y : List ℕ × List ℕ) → bs ≡ 45 ∷ after → run is_ascii_digit after ≡ prepend digit y → value ≡ magnitude (run is_ascii_digit after).0 → rest ≡ (run is_ascii_digit after).1 → below_zero value rest ≡ number_in_front bs
minus_some bs after rest value digit y e f ev er = minus_by after rest value digit (run is_ascii_digit after) y f ev er ∙ sym (ap number_in_front e)

pub minus_front : (b : ℕ) (bs after : List ℕ) → bs ≡ b ∷ after → b ≡ 45 → bs ≡ 45 ∷ after
minus_front b bs after e f = e ∙ ap (λ (c : ℕ). c ∷ after) f
