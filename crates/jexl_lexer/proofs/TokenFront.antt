-- One token, by what stands in front.
use Rattle.std.proofs.Common.{rules, ◌≡◌, ℕ, ◌^◌, ◌<◌, ◌≤◌, ℤ, Bool, true, false, List, [], ◌∷◌, length, Some, None, Result, Ok, Err, refl, sym, ap, subst, ◌∙◌, arith, w64}
use Rattle.std.specs.Prelude.{pos, ◌||◌, nat_lt}
use Rattle.std.specs.Result.{OkIff}
use mir.Val.{SFits, to_z, of_z}
use Rattle.std.proofs.lemmas.Int.{to_z-of_z}
use Rattle.std.specs.Str.Parse.{ParsesSigned}
use Rattle.std.proofs.lemmas.Str.Parse.{IsNumeralModel, numerals_by_fold, parse_signed_digits}
use Rattle.std.proofs.lemmas.Bool.{lt-ltb, le-ltb}
use Rattle.std.proofs.lemmas.Bool.Decides.{nat_tests}
use Rattle.jexl_lexer.specs.declared.token.Sign.{Sign}
use Rattle.jexl_lexer.specs.declared.token.TokenKind.{TokenKind}
use Rattle.jexl_lexer.specs.declared.token.TokenKind.TheVariants as kinds
use Rattle.jexl_lexer.specs.declared.fault.LexFault.{LexFault}
use Rattle.sequences.specs.Runs.{run, value_from}
use Rattle.jexl_lexer.specs.Lexing.{is_digit, is_start, is_word, is_quote, AllPass, BadChar, OpenText, BigNumber, Decimal, bad_char}
use Rattle.jexl_lexer.specs.Scanning.{inside, first_sign, all_signs}
use Rattle.jexl_lexer.specs.Reading.{TokenRead, decimal, value_part, number_part, quote_part, sign_part, other_part, name_part, token_part, token_at, token_of}
use Rattle.jexl_lexer.specs.Scanning.{NoAsciiFront, Starts}
use Rattle.jexl_lexer.specs.Answering.{Gives}
use Rattle.jexl_lexer.proofs.Uniqueness.{fault_only, start_no_digit}
use Rattle.jexl_lexer.proofs.Runs.{run_on}
use Rattle.jexl_lexer.proofs.Scans.{run_is}
use Rattle.jexl_lexer.proofs.SignAt.{high_no_sign}

big_no_digit : (b : ℕ) → 128 ≤ b → is_digit b ≡ false
big_no_digit b h = grind (arith, nat_tests)

big_no_start : (b : ℕ) → 128 ≤ b → is_start b ≡ false
big_no_start b h = grind (arith, nat_tests)

big_no_quote : (b : ℕ) → 128 ≤ b → is_quote b ≡ false
big_no_quote b h = grind (arith, nat_tests)

abbrev number_read : ℤ → List ℕ → TokenRead
number_read n rest = Ok (kinds.Number n, rest)

abbrev name_read : List ℕ → List ℕ → TokenRead
name_read w rest = Ok (kinds.Name w, rest)

-- numbers: the digits in front, and what follows them
number_at : (text digits rest : List ℕ) → Starts is_digit text → (digits, rest) ≡ run is_digit text → token_of text ≡ number_part digits rest (decimal rest)
unfolding token_at
number_at [] digits rest d e = absurd d
number_at (b ∷ bs) digits rest d e =
    ap (token_part b bs) d ∙ ap (λ (x : List ℕ × List ℕ). number_part x.0 x.1 (decimal x.1)) (sym (e ∙ run_on is_digit b (b ∷ bs) bs refl d))

pub number_decimal : (text digits rest : List ℕ) → Starts is_digit text → (digits, rest) ≡ run is_digit text → true ≡ decimal rest → token_of text ≡ Err Decimal
number_decimal text digits rest d e f = number_at text digits rest d e ∙ ap (number_part digits rest) (sym f)

numerals : IsNumeralModel (AllPass is_digit) (value_from 0)
numerals = numerals_by_fold _ (search rules) value_from (search rules)

all_digits : (text digits rest : List ℕ) → (digits, rest) ≡ run is_digit text → AllPass is_digit digits
all_digits text digits rest e = subst (λ (x : List ℕ × List ℕ). AllPass is_digit x.0) (sym e) (run_is is_digit text).pass

some_digits : (text digits rest : List ℕ) → Starts is_digit text → (digits, rest) ≡ run is_digit text → 0 < length digits
some_digits [] digits rest d e = absurd d
some_digits (b ∷ bs) digits rest d e =
    let f : length digits ≡ length (b ∷ (run is_digit bs).0) = ap (λ (x : List ℕ × List ℕ). length x.0) (e ∙ run_on is_digit b (b ∷ bs) bs refl d) in omega arith

-- the number of the digits is what they are parsed as, unless it is too big
whole_at : (text digits rest : List ℕ) → Starts is_digit text → (digits, rest) ≡ run is_digit text → false ≡ decimal rest
    → token_of text ≡ value_part (value_from 0 digits) rest (nat_lt (value_from 0 digits) (2 ^ 63))
whole_at text digits rest d e f = number_at text digits rest d e ∙ ap (number_part digits rest) (sym f)

pub number_small : (E : Type 0) (text digits rest : List ℕ) → Starts is_digit text → (digits, rest) ≡ run is_digit text → false ≡ decimal rest
    → (r : Result ℤ E) (n : ℤ) → ParsesSigned w64 10 digits r → r ≡ Ok n → token_of text ≡ Ok (kinds.Number (to_z w64 (of_z w64 n)), rest)
number_small E text digits rest d e f r n h i =
    let p : ParsesSigned {E = E} w64 10 digits (Ok n) = subst (λ (o : Result ℤ E). ParsesSigned w64 10 digits o) i h in
    let q : OkIff {T = ℤ} {E = E} (Ok n) ((0 < length digits) × (value_from 0 digits < 2 ^ 63)) (pos (value_from 0 digits)) = parse_signed_digits numerals {E = E} w64 digits (Ok n) p (all_digits text digits rest e) in
    let same : to_z w64 (of_z w64 n) ≡ n = to_z-of_z w64 n (subst (λ (z : ℤ). SFits w64 z) (sym p.1) p.0.1) in
    whole_at text digits rest d e f ∙ ap (value_part (value_from 0 digits) rest) (lt-ltb (value_from 0 digits) (2 ^ 63) q.0.1) ∙ ap (λ (z : ℤ). number_read z rest) (sym (same ∙ q.1))

pub number_big : (E : Type 0) (text digits rest : List ℕ) → Starts is_digit text → (digits, rest) ≡ run is_digit text → false ≡ decimal rest
    → (x : E) → ParsesSigned {E = E} w64 10 digits (Err x) → token_of text ≡ Err BigNumber
number_big E text digits rest d e f x p =
    let q : OkIff {T = ℤ} {E = E} (Err x) ((0 < length digits) × (value_from 0 digits < 2 ^ 63)) (pos (value_from 0 digits)) = parse_signed_digits numerals {E = E} w64 digits (Err x) p (all_digits text digits rest e) in
    let some = some_digits text digits rest d e in
    let no : value_from 0 digits < 2 ^ 63 → ⊥ = λ l. q (some, l) in
    let big : 2 ^ 63 ≤ value_from 0 digits = omega arith in
    whole_at text digits rest d e f ∙ ap (value_part (value_from 0 digits) rest) (le-ltb (value_from 0 digits) (2 ^ 63) big)

word_at_start : (b : ℕ) → is_start b ≡ true → is_word b ≡ true
word_at_start b e = ap (λ (t : Bool). t || is_digit b) e

pub name_found : (text w rest : List ℕ) → Starts is_start text → (w, rest) ≡ run is_word text → token_of text ≡ Ok (kinds.Name w, rest)
unfolding token_at
name_found [] w rest s e = absurd s
name_found (b ∷ bs) w rest s e =
    ap (token_part b bs) (start_no_digit b s) ∙ ap (name_part b bs) s ∙ ap (λ (x : List ℕ × List ℕ). name_read x.0 x.1) (sym (e ∙ run_on is_word b (b ∷ bs) bs refl (word_at_start b s)))

pub starts : (p : ℕ → Bool) (b : ℕ) (text rest : List ℕ) → text ≡ b ∷ rest → true ≡ p b → Starts p text
starts p b text rest e t = subst (λ (w : List ℕ). Starts p w) (sym e) (sym t)

pub quote_found : (q : ℕ) (text w rest : List ℕ) → Some (w, rest) ≡ inside q false text → other_part q text true ≡ Ok (kinds.Quoted w, rest)
quote_found q text w rest e = ap quote_part (sym e)

pub quote_open : (q : ℕ) (text : List ℕ) → None ≡ inside q false text → other_part q text true ≡ Err OpenText
quote_open q text e = ap quote_part (sym e)

pub sign_found : (text rest : List ℕ) (s : Sign) → Some (s, rest) ≡ first_sign all_signs text → sign_part (first_sign all_signs text) ≡ Ok (kinds.Sign s, rest)
sign_found text rest s e = ap sign_part (sym e)

pub sign_missing : (text : List ℕ) → None ≡ first_sign all_signs text → sign_part (first_sign all_signs text) ≡ Err BadChar
sign_missing text e = ap sign_part (sym e)

big_by : (b : ℕ) (bs : List ℕ) → 128 ≤ b → token_of (b ∷ bs) ≡ Err BadChar
big_by b bs h = fault_only (bad_char b bs (big_no_digit b h) (big_no_start b h) (big_no_quote b h) (high_no_sign (b ∷ bs) h))

pub token_big : (text : List ℕ) → NoAsciiFront text → token_of text ≡ Err BadChar
token_big [] h = refl
token_big (b ∷ bs) h = big_by b bs h

quote_at : (b : ℕ) (rest text : List ℕ) → text ≡ b ∷ rest → false ≡ is_digit b → false ≡ is_start b → true ≡ is_quote b → token_of text ≡ other_part b rest true
unfolding token_at
quote_at b rest text e d s q = ap token_of e ∙ ap (token_part b rest) (sym d) ∙ ap (name_part b rest) (sym s) ∙ ap (other_part b rest) (sym q)

sign_at : (b : ℕ) (rest text : List ℕ) → text ≡ b ∷ rest → false ≡ is_digit b → false ≡ is_start b → false ≡ is_quote b → token_of text ≡ sign_part (first_sign all_signs text)
unfolding token_at
sign_at b rest text e d s q =
    ap token_of e ∙ ap (token_part b rest) (sym d) ∙ ap (name_part b rest) (sym s) ∙ ap (other_part b rest) (sym q) ∙ ap (λ (w : List ℕ). sign_part (first_sign all_signs w)) (sym e)

module _ {X : Type 0} (place : ℕ) (view : X → TokenKind × List ℕ) (r : Result X LexFault) where
  gives_by : (t u : TokenRead) → t ≡ u → Gives place view r u → Gives place view r t
  gives_by t u e g = subst (λ (w : TokenRead). Gives place view r w) (sym e) g

  pub token_quote : (b : ℕ) (rest text : List ℕ) → text ≡ b ∷ rest → false ≡ is_digit b → false ≡ is_start b → true ≡ is_quote b → Gives place view r (other_part b rest true) → Gives place view r (token_of text)
  token_quote b rest text e d s q g = gives_by (token_of text) (other_part b rest true) (quote_at b rest text e d s q) g

  pub token_sign : (b : ℕ) (rest text : List ℕ) → text ≡ b ∷ rest → false ≡ is_digit b → false ≡ is_start b → false ≡ is_quote b → Gives place view r (sign_part (first_sign all_signs text)) → Gives place view r (token_of text)
  token_sign b rest text e d s q g = gives_by (token_of text) (sign_part (first_sign all_signs text)) (sign_at b rest text e d s q) g

pub quote_low : (b : ℕ) → is_quote b ≡ true → b < 92
quote_low b e = grind (arith, nat_tests)
