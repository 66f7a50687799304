-- Quotients rounded down beside those rounded toward 0.
use Rattle.std.proofs.Common.{◌≡◌, ◌≢◌, ℕ, zero, suc, ◌+◌, ◌*◌, ◌/◌, ◌%◌, ◌<◌, ◌⊎◌, ℤ, ◌^◌, pos, negsuc, neg_ℤ, ◌-ℤ◌, Bool, true, false, Ok, FitsSigned, w64, refl, sym, ap, ◌∙◌, subst, arith, inl, inr}
use Rattle.std.proofs.lemmas.Bool.{cases_lt, lt-ltb, le-ltb, true≢false}
use Rattle.std.proofs.lemmas.Int.{ints}
use Rattle.std.proofs.lemmas.Nat.{div-mul-add, div-add-mod'}
use Rattle.std.proofs.Math.Nat.{div-le_self, div-eq_of_eq-mul_left, suc-mod, mod-eq_of_lt, mod-lt, mod_self}
use mathlib.Core.Bool.{beq, not}
use Rattle.std.specs.Prelude.{int_div, int_rem, int_lt}
use Rattle.jexl_eval.specs.Numbers.{in_range, floor_quotient}

-- where the number after a is a multiple of d, and where it isn't
whole_div : (a d q r : ℕ) → q * d + r ≡ a → suc r ≡ d → suc a / d ≡ suc q
whole_div a d q r e h = div-eq_of_eq-mul_left {n = d} {m = suc a} {k = suc q} (omega arith) (omega arith)

part_div : (a d q r : ℕ) → q * d + r ≡ a → suc r < d → suc a / d ≡ q
part_div a d q r e h = let same : q * d + suc r ≡ suc a = omega arith in subst (λ n. n / d ≡ q) same (div-mul-add q d (suc r) h)

-- the number after a is a multiple of d, or has the quotient of a
pub suc_div : (a d : ℕ) → 0 < d → ((suc a % d ≡ 0) × (suc a / d ≡ suc (a / d))) ⊎ ((suc a % d ≢ 0) × (suc a / d ≡ a / d))
suc_div a d h =
    let left : a % d < d = mod-lt a h in
    let parts : a / d * d + a % d ≡ a = div-add-mod' a d in
    let rest : suc a % d ≡ suc (a % d) % d = suc-mod a d in
    elim (cases_lt (suc (a % d)) d) [
      | inl less ↦ (let same : suc (a % d) % d ≡ suc (a % d) = mod-eq_of_lt less in inr ((λ none. absurd (omega arith)), part_div a d (a / d) (a % d) parts less))
      | inr least ↦ (let same : suc (a % d) ≡ d = omega arith in inl (rest ∙ ap (λ n. n % d) same ∙ mod_self d, whole_div a d (a / d) (a % d) parts same))
    ]

neg_less : (x : ℕ) → neg_ℤ (pos x) -ℤ pos 1 ≡ negsuc x
neg_less zero = refl
neg_less (suc x) = omega (arith, ints)

pub fits_in_range : (z : ℤ) → FitsSigned w64 z → in_range z ≡ Ok z
fits_in_range (pos n) h = rw (lt-ltb n (2 ^ 63) (omega (arith, h.sfits))) refl
fits_in_range (negsuc n) h = rw (lt-ltb n (2 ^ 63) (omega (arith, h.sfits))) refl

negated : (n : ℕ) → n ≢ 0 → int_lt (neg_ℤ (pos n)) (pos 0) ≡ true
negated zero h = absurd (h refl)
negated (suc n) h = refl

not_below : (n : ℕ) → int_lt (pos n) (pos 0) ≡ false
not_below n = le-ltb n 0 (omega arith)

-- the quotient rounded down is one less where something is left on the other side of 0 than the divisor
pub floor_less : (m n : ℤ) → n ≢ pos 0 → int_rem m n ≢ pos 0 → int_lt (int_rem m n) (pos 0) ≢ int_lt n (pos 0) → floor_quotient m n ≡ int_div m n -ℤ pos 1
floor_less (pos a) (pos d) h rest sides = absurd (sides (not_below (a % d) ∙ sym (not_below d)))
floor_less (negsuc a) (pos zero) h rest sides = absurd (h refl)
floor_less (negsuc a) (pos (suc d)) h rest sides =
    elim (suc_div a (suc d) (omega arith)) [
      | inl x ↦ absurd (rest (ap (λ n. neg_ℤ (pos n)) x.0))
      | inr x ↦ sym (ap (λ n. neg_ℤ (pos n) -ℤ pos 1) x.1 ∙ neg_less (a / suc d))
    ]
floor_less (pos zero) (negsuc d) h rest sides = let none : 0 % suc d ≡ 0 = omega arith in absurd (rest (ap pos none))
floor_less (pos (suc a)) (negsuc d) h rest sides =
    elim (suc_div a (suc d) (omega arith)) [
      | inl x ↦ absurd (rest (ap pos x.0))
      | inr x ↦ sym (ap (λ n. neg_ℤ (pos n) -ℤ pos 1) x.1 ∙ neg_less (a / suc d))
    ]
floor_less (negsuc a) (negsuc d) h rest sides =
    elim (suc_div a (suc d) (omega arith)) [
      | inl x ↦ absurd (rest (ap (λ n. neg_ℤ (pos n)) x.0))
      | inr x ↦ absurd (sides (negated (suc a % suc d) x.0))
    ]

-- and else the quotient rounded toward 0
pub floor_same : (m n : ℤ) → n ≢ pos 0 → (int_rem m n ≡ pos 0) ⊎ (int_lt (int_rem m n) (pos 0) ≡ int_lt n (pos 0)) → floor_quotient m n ≡ int_div m n
floor_same (pos a) (pos d) h same = refl
floor_same (negsuc a) (pos zero) h same = absurd (h refl)
floor_same (negsuc a) (pos (suc d)) h same =
    elim (suc_div a (suc d) (omega arith)) [
      | inl x ↦ sym (ap (λ n. neg_ℤ (pos n)) x.1)
      | inr x ↦ elim same [
        | inl none ↦ absurd (true≢false (sym (negated (suc a % suc d) x.0) ∙ ap (λ z. int_lt z (pos 0)) none))
        | inr sides ↦ absurd (true≢false (sym (negated (suc a % suc d) x.0) ∙ sides ∙ not_below (suc d)))
      ]
    ]
floor_same (pos zero) (negsuc d) h same = let none : 0 / suc d ≡ 0 = omega arith in ap pos none ∙ sym (ap (λ n. neg_ℤ (pos n)) none)
floor_same (pos (suc a)) (negsuc d) h same =
    elim (suc_div a (suc d) (omega arith)) [
      | inl x ↦ sym (ap (λ n. neg_ℤ (pos n)) x.1)
      | inr x ↦ elim same [
        | inl none ↦ absurd (x.0 (omega (arith, ints, none)))
        | inr sides ↦ absurd (true≢false (sym sides ∙ not_below (suc a % suc d)))
      ]
    ]
floor_same (negsuc a) (negsuc d) h same = refl

-- it fits where it is one less
pub floor_fits : (m n : ℤ) → FitsSigned w64 m → n ≢ pos 0 → int_rem m n ≢ pos 0 → int_lt (int_rem m n) (pos 0) ≢ int_lt n (pos 0) → FitsSigned w64 (floor_quotient m n)
floor_fits (pos a) (pos d) f h rest sides = absurd (sides (not_below (a % d) ∙ sym (not_below d)))
floor_fits (negsuc a) (pos d) f h rest sides = record { sfits = omega (arith, f.sfits, div-le_self a d) }
floor_fits (pos zero) (negsuc d) f h rest sides = let none : 0 % suc d ≡ 0 = omega arith in absurd (rest (ap pos none))
floor_fits (pos (suc a)) (negsuc d) f h rest sides = record { sfits = omega (arith, f.sfits, div-le_self a (suc d)) }
floor_fits (negsuc a) (negsuc d) f h rest sides =
    elim (suc_div a (suc d) (omega arith)) [
      | inl x ↦ absurd (rest (ap (λ n. neg_ℤ (pos n)) x.0))
      | inr x ↦ absurd (sides (negated (suc a % suc d) x.0))
    ]

pub apart : (a b : Bool) → not (beq a b) ≡ true → a ≢ b
apart true true e = absurd (true≢false (sym e))
apart true false e = λ same. true≢false same
apart false true e = λ same. true≢false (sym same)
apart false false e = absurd (true≢false (sym e))

pub alike : (a b : Bool) → not (beq a b) ≡ false → a ≡ b
alike true true e = refl
alike true false e = absurd (true≢false e)
alike false true e = absurd (true≢false e)
alike false false e = refl
