-- When a word is a number from 1 to 1,000,000 in decimal.
use Rattle.std.proofs.Common.{◌≡◌, ◌≤◌, ℕ, Bool, true, false, List, Ok, Err, refl, sym, ap, subst, ◌∙◌, arith}
use Rattle.std.specs.Prelude.{bytes_eq, decimal, if◌then◌else◌}
use Rattle.std.specs.Str.Parse.{digits_value}
use Rattle.std.proofs.lemmas.Bool.Decides.{nat_tests}
use Rattle.std.proofs.lemmas.Fmt.{decimal_is_IsNumeral}
use Rattle.std.proofs.lemmas.Slice.Eq.{bytes_eq-Decides}
use Rattle.client_words.specs.declared.line.LineFault.TheVariants.{BadWords}
use Rattle.client_words.specs.Commands.{is_count, count_in}

pub where_true : (b : Bool) (n : ℕ) → b ≡ true → (if b then Ok n else Err BadWords) ≡ Ok n
where_true true n e = refl
where_true false n e = absurd (cc)

pub where_false : (b : Bool) (n : ℕ) → (b ≡ true → ⊥) → (if b then Ok n else Err BadWords) ≡ Err BadWords
where_false true n never = absurd (never refl)
where_false false n never = refl

value_of_decimal : (n : ℕ) → n ≤ 1000000 → digits_value 10 (decimal n) ≡ n
value_of_decimal n most = (decimal_is_IsNumeral n (omega (arith, most))).1

test_true : (n : ℕ) (word : List ℕ) → word ≡ decimal n → 1 ≤ n → n ≤ 1000000 → is_count n word ≡ true
test_true n word is least most =
    let same : bytes_eq word (decimal n) ≡ true = (bytes_eq-Decides word (decimal n)).1 is in
    grind (arith, nat_tests, same, least, most)

pub is_counted : (word : List ℕ) (n : ℕ) → word ≡ decimal n → 1 ≤ n → n ≤ 1000000 → count_in word ≡ Ok n
unfolding count_in
is_counted word n is least most =
    let same : digits_value 10 word ≡ n = ap (digits_value 10) is ∙ value_of_decimal n most in
    subst (λ (m : ℕ). (if is_count m word then Ok m else Err BadWords) ≡ Ok n) (sym same) (where_true (is_count n word) n (test_true n word is least most))

both_of : (n : ℕ) (word : List ℕ) → is_count n word ≡ true → (word ≡ decimal n) × (1 ≤ n) × (n ≤ 1000000)
both_of n word e = (
  (bytes_eq-Decides word (decimal n)).0 (grind (arith, nat_tests, e)),
  grind (arith, nat_tests, e),
  grind (arith, nat_tests, e),
)

pub is_not_counted : (word : List ℕ) → ((n : ℕ) → word ≡ decimal n → 1 ≤ n → n ≤ 1000000 → ⊥) → count_in word ≡ Err BadWords
unfolding count_in
is_not_counted word never =
    let n = digits_value 10 word in
    where_false (is_count n word) n (λ e. let both = both_of n word e in never n both.0 both.1 both.2)
