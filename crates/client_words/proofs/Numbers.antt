-- When a word is a number below 2 to the 64 in decimal.
use Rattle.std.proofs.Common.{◌≡◌, ◌<◌, ◌^◌, ℕ, true, List, Ok, Err, sym, ap, subst, ◌∙◌, arith}
use Rattle.std.specs.Prelude.{bytes_eq, decimal, if◌then◌else◌}
use Rattle.std.specs.Str.Parse.{digits_value}
use Rattle.std.proofs.lemmas.Bool.Decides.{nat_tests}
use Rattle.std.proofs.lemmas.Fmt.{decimal_is_IsNumeral}
use Rattle.std.proofs.lemmas.Slice.Eq.{bytes_eq-Decides}
use Rattle.client_words.specs.declared.line.LineFault.TheVariants.{BadWords}
use Rattle.client_words.specs.Commands.{is_number, number_in}
use Rattle.client_words.proofs.Counting.{where_true, where_false}

value_of_decimal : (n : ℕ) → n < 2 ^ 64 → digits_value 10 (decimal n) ≡ n
value_of_decimal n less = (decimal_is_IsNumeral n (omega (arith, less))).1

test_true : (n : ℕ) (word : List ℕ) → word ≡ decimal n → n < 2 ^ 64 → is_number n word ≡ true
test_true n word is less =
    let same : bytes_eq word (decimal n) ≡ true = (bytes_eq-Decides word (decimal n)).1 is in
    grind (arith, nat_tests, same, less)

pub is_number_in : (word : List ℕ) (n : ℕ) → word ≡ decimal n → n < 2 ^ 64 → number_in word ≡ Ok n
unfolding number_in
is_number_in word n is less =
    let same : digits_value 10 word ≡ n = ap (digits_value 10) is ∙ value_of_decimal n less in
    subst (λ (m : ℕ). (if is_number m word then Ok m else Err BadWords) ≡ Ok n) (sym same) (where_true (is_number n word) n (test_true n word is less))

both_of : (n : ℕ) (word : List ℕ) → is_number n word ≡ true → (word ≡ decimal n) × (n < 2 ^ 64)
both_of n word e = ((bytes_eq-Decides word (decimal n)).0 (grind (arith, nat_tests, e)), grind (arith, nat_tests, e))

pub is_none_in : (word : List ℕ) → ((n : ℕ) → n < 2 ^ 64 → word ≡ decimal n → ⊥) → number_in word ≡ Err BadWords
unfolding number_in
is_none_in word never =
    let n = digits_value 10 word in
    where_false (is_number n word) n (λ e. let both = both_of n word e in never n both.1 both.0)
