-- Powers that fit, and those that don't.
use Rattle.std.proofs.Common.{◌≡◌, ◌≢◌, ℕ, zero, suc, ◌%◌, ◌≤◌, ◌^◌, ℤ, pos, negsuc, neg_ℤ, Bool, true, false, cond, ◌==◌, Ok, Err, refl, arith}
use Rattle.std.proofs.lemmas.Bool.{le-ltb}
use Rattle.std.proofs.Math.Nat.{pow-le-pow_left, pow-le-pow_right}
use Rattle.std.specs.Int.{int_pow}
use Rattle.jexl_eval.specs.Faults.{Overflow}
use Rattle.jexl_eval.specs.Numbers.{in_range}

pub one_pow : (e : ℕ) → 1 ^ e ≡ 1
one_pow zero = refl
one_pow (suc e) = omega (arith, one_pow e)

pub zero_pow : (e : ℕ) → e ≢ 0 → 0 ^ e ≡ 0
zero_pow zero h = absurd (h refl)
zero_pow (suc e) h = omega arith

large : (b e : ℕ) → 2 ≤ b → 64 ≤ e → 2 ^ 64 ≤ b ^ e
large b e h g = let more : 2 ^ 64 ≤ 2 ^ e = pow-le-pow_right {n = 2} (omega arith) {i = 64} {j = e} g in let greater : 2 ^ e ≤ b ^ e = pow-le-pow_left {n = 2} {m = b} h e in omega arith

above : (n : ℕ) → 2 ^ 64 ≤ n → in_range (pos n) ≡ Err Overflow
above n h = rw (le-ltb n (2 ^ 63) (omega arith)) refl

below : (n : ℕ) → 2 ^ 64 ≤ n → in_range (neg_ℤ (pos n)) ≡ Err Overflow
below zero h = absurd (omega arith)
below (suc n) h = rw (le-ltb n (2 ^ 63) (omega arith)) refl

either : (b : Bool) (n : ℕ) → 2 ^ 64 ≤ n → in_range (cond b (pos n) (neg_ℤ (pos n))) ≡ Err Overflow
either true n h = above n h
either false n h = below n h

-- no power from 64 on fits, but those of 0, 1 and -1
pub large_pow : (z : ℤ) (e : ℕ) → z ≢ pos 0 → z ≢ pos 1 → z ≢ negsuc 0 → 64 ≤ e → in_range (int_pow z e) ≡ Err Overflow
large_pow (pos zero) e a b c h = absurd (a refl)
large_pow (pos (suc zero)) e a b c h = absurd (b refl)
large_pow (pos (suc (suc n))) e a b c h = above (suc (suc n) ^ e) (large (suc (suc n)) e (omega arith) h)
large_pow (negsuc zero) e a b c h = absurd (c refl)
large_pow (negsuc (suc n)) e a b c h = either (e % 2 == 0) (suc (suc n) ^ e) (large (suc (suc n)) e (omega arith) h)

pub zero_to : (e : ℕ) → e ≢ 0 → in_range (int_pow (pos 0) e) ≡ Ok (pos 0)
zero_to e h = rw (zero_pow e h) refl

pub one_to : (e : ℕ) → in_range (int_pow (pos 1) e) ≡ Ok (pos 1)
one_to e = rw (one_pow e) refl

pub minus_one_to_even : (e : ℕ) → e % 2 ≡ 0 → in_range (int_pow (negsuc 0) e) ≡ Ok (pos 1)
minus_one_to_even e h = rw (one_pow e, h) refl

pub minus_one_to_odd : (e : ℕ) → e % 2 ≢ 0 → in_range (int_pow (negsuc 0) e) ≡ Ok (negsuc 0)
minus_one_to_odd e h = let odd : e % 2 ≡ 1 = omega arith in rw (one_pow e, odd) refl
