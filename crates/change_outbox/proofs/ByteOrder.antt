-- The eight bytes of numbers tell them apart, and are in the order of the numbers.
use Rattle.std.proofs.Common.{Less, ◌≡◌, ℕ, zero, suc, ◌+◌, ◌*◌, ◌%◌, ◌^◌, ◌<◌, ◌≤◌, List, [], ◌∷◌, inl, inr, refl, sym, ap, ◌∙◌, subst, arith, w64}
use Rattle.std.specs.Int.{byte_at, bytes_high_first, from_be_bytes}
use Rattle.std.proofs.Math.Arith.{mod-mul}
use Rattle.std.proofs.Math.Nat.{mod-eq_of_lt, pow-suc, mod-lt, pow-le-pow_right, mul_comm, mul-le-mul_right}
use Rattle.std.proofs.lemmas.Bool.{cases_order, lt-ltb}
use Rattle.std.proofs.lemmas.Bool.Decides.{nat_tests}
use Rattle.std.proofs.lemmas.Nat.{from_be_bytes-to_be_bytes_8}
use Rattle.row_batches.specs.Rows.{key_cmp}
use Rattle.change_outbox.specs.Rows.{number_text, change_key}

pub same_numbers : (a b : ℕ) → a < 2 ^ 64 → b < 2 ^ 64 → number_text a ≡ number_text b → a ≡ b
unfolding number_text
same_numbers a b a_fits b_fits same = sym (from_be_bytes-to_be_bytes_8 a a_fits) ∙ ap (from_be_bytes w64) same ∙ from_be_bytes-to_be_bytes_8 b b_fits

-- ---- order

digit_less : (x y : ℕ) (xs ys : List ℕ) → x < y → key_cmp (x ∷ xs) (y ∷ ys) ≡ Less
digit_less x y xs ys less = rw (lt-ltb x y less) refl

digit_same : (x y : ℕ) (xs ys : List ℕ) → x ≡ y → key_cmp (x ∷ xs) (y ∷ ys) ≡ key_cmp xs ys
digit_same x y xs ys same = grind (arith, nat_tests)

-- the two low digits of a number to the bases 256 ^ k and 256
top_digit : (k n : ℕ) → n % 256 ^ suc k ≡ byte_at k n * 256 ^ k + n % 256 ^ k
top_digit zero n = omega arith
top_digit (suc k) n =
    let unit = 256 ^ suc k in
    let wider : 256 ^ suc (suc k) ≡ 256 * unit = pow-suc 256 (suc k) ∙ mul_comm unit 256 in
    let some : 0 < unit = pow-le-pow_right {n = 256} (omega arith) {i = 0} {j = suc k} (omega arith) in
    rw (wider, mod-mul n {m = 256} {c = unit} (omega arith) some) refl

lower_digit : (x y r s unit : ℕ) → y < x → s < unit → x * unit + r < y * unit + s → zero ≡ 1
lower_digit x y r s unit less within below =
    let most : (y + 1) * unit ≤ x * unit = mul-le-mul_right unit (omega arith) in
    absurd (omega (arith, most))

bytes_less : (k a b : ℕ) → a % 256 ^ k < b % 256 ^ k → key_cmp (bytes_high_first k a) (bytes_high_first k b) ≡ Less
bytes_less zero a b less = absurd (omega arith)
bytes_less (suc k) a b less =
    let below : byte_at k a * 256 ^ k + a % 256 ^ k < byte_at k b * 256 ^ k + b % 256 ^ k = rw (sym (top_digit k a), sym (top_digit k b)) less in
    elim (cases_order (byte_at k a) (byte_at k b)) [
      | inl same ↦ digit_same (byte_at k a) (byte_at k b) (bytes_high_first k a) (bytes_high_first k b) same ∙ bytes_less k a b (rest (byte_at k a) (byte_at k b) (a % 256 ^ k) (b % 256 ^ k) (256 ^ k) same below)
      | inr (inl lower) ↦ digit_less (byte_at k a) (byte_at k b) (bytes_high_first k a) (bytes_high_first k b) lower
      | inr (inr higher) ↦ absurd (omega (arith, lower_digit (byte_at k a) (byte_at k b) (a % 256 ^ k) (b % 256 ^ k) (256 ^ k) higher (mod-lt b {m = 256 ^ k} (some k)) below))
    ]
  where
    rest : (x y r s unit : ℕ) → x ≡ y → x * unit + r < y * unit + s → r < s
    rest x y r s unit same below = let at = subst (λ z. z * unit + r < y * unit + s) same below in omega (arith, at)

    some : (j : ℕ) → 0 < 256 ^ j
    some j = pow-le-pow_right {n = 256} (omega arith) {i = 0} {j = j} (omega arith)

pub keys_rise : (a b : ℕ) → a < b → b < 2 ^ 64 → key_cmp (change_key a) (change_key b) ≡ Less
unfolding number_text
keys_rise a b less fits =
    let a_whole : a % 256 ^ 8 ≡ a = mod-eq_of_lt (omega arith) in
    let b_whole : b % 256 ^ 8 ≡ b = mod-eq_of_lt (omega arith) in
    bytes_less 8 a b (rw (a_whole, b_whole) less)

pub next_key_first : (n : ℕ) → key_cmp (120 ∷ []) (change_key n) ≡ Less
unfolding number_text
next_key_first n = refl
