-- Digits one at a time.
use Rattle.std.proofs.Common.{◌≡◌, ℕ, zero, suc, ◌+◌, ◌-◌, ◌*◌, ◌^◌, ◌<◌, ◌≤◌, Bool, true, false, cond, List, [], ◌∷◌, length, refl, sym, ap, subst, ◌∙◌, arith}
use Rattle.std.specs.Prelude.{nat_lt}
use Rattle.std.proofs.Math.Nat.{pow-succ'}
use Rattle.std.proofs.lemmas.Bool.{lt-ltb, le-ltb}
use Rattle.std.proofs.lemmas.Bool.Decides.{nat_tests}
use Rattle.version_compare.specs.Counting.{magnitude_from, FitsCount, AddsDigit}
use Rattle.std.specs.Char.{is_ascii_digit}
use Rattle.sequences.specs.Runs.{prepend, run, value_from}
use Rattle.version_compare.specs.Versions.{magnitude}

pub run_on : (b : ℕ) (bs rest : List ℕ) → bs ≡ b ∷ rest → is_ascii_digit b ≡ true → run is_ascii_digit bs ≡ prepend b (run is_ascii_digit rest)
unfolding run
run_on b bs rest e t = ap (run is_ascii_digit) e ∙ ap (λ (s : Bool). cond s (prepend b (run is_ascii_digit rest)) ([], b ∷ rest)) t

stop_at : (b : ℕ) (rest : List ℕ) → is_ascii_digit b ≡ false → run is_ascii_digit (b ∷ rest) ≡ ([], b ∷ rest)
unfolding run
stop_at b rest t = ap (λ (s : Bool). cond s (prepend b (run is_ascii_digit rest)) ([], b ∷ rest)) t

pub run_stop : (b : ℕ) (bs rest : List ℕ) → bs ≡ b ∷ rest → is_ascii_digit b ≡ false → run is_ascii_digit bs ≡ ([], bs)
run_stop b bs rest e t = subst (λ (w : List ℕ). run is_ascii_digit w ≡ ([], w)) (sym e) (stop_at b rest t)

nothing_at : run is_ascii_digit [] ≡ ([], [])
unfolding run
nothing_at = refl

pub run_none : (bs : List ℕ) → bs ≡ [] → run is_ascii_digit bs ≡ ([], bs)
run_none bs e = subst (λ (w : List ℕ). run is_ascii_digit w ≡ ([], w)) (sym e) nothing_at

pub digit_bounds : (b : ℕ) → is_ascii_digit b ≡ true → (48 ≤ b) × (b ≤ 57)
digit_bounds b e = grind (arith, nat_tests)

power_below_17 : (k n : ℕ) → n + k ≡ 17 → 10 ^ n ≤ 10 ^ 17
power_below_17 zero n e = let f : n ≡ 17 = omega arith in subst (λ (m : ℕ). 10 ^ m ≤ 10 ^ 17) (sym f) (omega arith)
power_below_17 (suc k) n e = let h = power_below_17 k (suc n) (omega arith) in let p = pow-succ' 10 n in omega (arith, h, p)

pub value_below : (n v : ℕ) → n < 18 → v < 10 ^ n → v < 100000000000000000
value_below n v l h = let c = power_below_17 (17 - n) n (omega arith) in omega (arith, c, h)

pub adds_digit : (n v b w : ℕ) → w ≡ 10 * v + (b - 48) → AddsDigit n v b (n + 1) w
adds_digit n v b w e ds =
    let l : n + length (b ∷ ds) ≡ n + 1 + length ds = omega arith in
    ap (λ (x : ℕ). cond (nat_lt 18 x) (10 ^ 18) (value_from (10 * v + (b - 48)) ds)) l ∙ ap (λ (x : ℕ). magnitude_from (n + 1) x ds) (sym e)

magnitude_full : (n v : ℕ) (ds : List ℕ) → 18 < n + length ds → magnitude_from n v ds ≡ 10 ^ 18
magnitude_full n v ds l = ap (λ (t : Bool). cond t (10 ^ 18) (value_from v ds)) (lt-ltb 18 (n + length ds) l)

pub adds_no_value : (n v b : ℕ) → 18 ≤ n → AddsDigit n v b 19 v
adds_no_value n v b l ds = magnitude_full n v (b ∷ ds) (omega (arith, l)) ∙ sym (magnitude_full 19 v ds (omega arith))

add_one_suc : (n : ℕ) → n + 1 ≡ suc n
add_one_suc n = omega arith

pub fits_more : (n v b w : ℕ) → n < 18 → FitsCount n v → is_ascii_digit b ≡ true → w ≡ 10 * v + (b - 48) → FitsCount (n + 1) w
fits_more n v b w l h d e k =
    let p : 10 ^ (n + 1) ≡ 10 * 10 ^ n = ap (λ (m : ℕ). 10 ^ m) (add_one_suc n) ∙ pow-succ' 10 n in
    let g = h (omega (arith, l)) in
    let c = digit_bounds b d in
    omega (arith, p, g, e, c.0, c.1)

pub fits_full : (v : ℕ) → FitsCount 19 v
fits_full v k = absurd (omega (arith, k))

pub value_fits : (n v : ℕ) → n < 18 → FitsCount n v → v < 100000000000000000
value_fits n v l h = value_below n v l (h (omega (arith, l)))

power_below_18 : (k n : ℕ) → n + k ≡ 18 → 10 ^ n ≤ 10 ^ 18
power_below_18 zero n e = let f : n ≡ 18 = omega arith in subst (λ (m : ℕ). 10 ^ m ≤ 10 ^ 18) (sym f) (omega arith)
power_below_18 (suc k) n e = let h = power_below_18 k (suc n) (omega arith) in let p = pow-succ' 10 n in omega (arith, h, p)

pub capped_bound : (n v : ℕ) → n ≤ 18 → FitsCount n v → v ≤ 1000000000000000000
capped_bound n v l h = let c = power_below_18 (18 - n) n (omega (arith, l)) in let g = h l in omega (arith, c, g)

pub capped_full : (n v : ℕ) → 18 < n → 1000000000000000000 ≡ magnitude_from n v []
capped_full n v l = sym (magnitude_full n v [] (omega (arith, l)))

pub capped_short : (n v : ℕ) → n ≤ 18 → v ≡ magnitude_from n v []
capped_short n v l = sym (ap (λ (t : Bool). cond t (10 ^ 18) v) (le-ltb 18 (n + 0) (omega (arith, l))))

pub magnitude_start : (x : List ℕ × List ℕ) → magnitude x.0 ≡ magnitude_from 0 0 x.0
magnitude_start x = let z : length x.0 ≡ 0 + length x.0 = omega arith in ap (λ (n : ℕ). cond (nat_lt 18 n) (10 ^ 18) (value_from 0 x.0)) z

pub digits_on : (all n v b m w : ℕ) (x y : List ℕ × List ℕ) → all ≡ magnitude_from n v x.0 → x ≡ prepend b y → AddsDigit n v b m w → all ≡ magnitude_from m w y.0
digits_on all n v b m w x y e f s = e ∙ ap (λ (z : List ℕ × List ℕ). magnitude_from n v z.0) f ∙ s y.0

pub digits_end : (all n v r : ℕ) (x : List ℕ × List ℕ) (bs : List ℕ) → all ≡ magnitude_from n v x.0 → x ≡ ([], bs) → r ≡ magnitude_from n v [] → r ≡ all
digits_end all n v r x bs e f g = g ∙ sym (e ∙ ap (λ (z : List ℕ × List ℕ). magnitude_from n v z.0) f)
