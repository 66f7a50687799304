-- What lexing gives are the tokens, or the first fault.
use Rattle.std.proofs.Common.{◌≡◌, ℕ, zero, suc, ◌+◌, ◌^◌, ◌<◌, ◌≤◌, Bool, true, false, List, [], ◌∷◌, ◌++◌, length, Option, Some, None, Ok, Err, refl, sym, ap, subst, arith, length-append}
use Rattle.std.specs.Prelude.{◌&&◌, ◌==◌, nat_lt}
use Rattle.std.proofs.lemmas.Bool.{eqb-true, ltb-true, ltb-false, and_parts}
use Rattle.jexl_lexer.specs.declared.lexer.TheConstants.{MAX_TOKENS}
use Rattle.jexl_lexer.specs.declared.token.Sign.{Sign}
use Rattle.jexl_lexer.specs.declared.token.TokenKind.{TokenKind}
use Rattle.jexl_lexer.specs.declared.token.TokenKind.TheVariants as kinds
use Rattle.sequences.specs.Runs.{run, value_from}
use Rattle.jexl_lexer.specs.Lexing.{is_blank, is_digit, is_start, is_word, is_quote, AllPass, Stops, IsDecimal, sign_text, IsLongest, Begins, number, name, quoted, sign, TooManyTokens, FaultAt, decimal as decimal_fault, big_number, open_text, bad_char, Lexes, done, skip, next, Faults, skip_on, next_on, too_many, here}
use Rattle.jexl_lexer.specs.Scanning.{inside, first_sign, all_signs}
use Rattle.jexl_lexer.specs.Reading.{TokenRead, decimal, value_part, number_part, quote_part, sign_part, other_part, name_part, token_part, token_at, AllRead, in_front, end_of, after_token, room_part, blank_part, lex_from}
use Rattle.jexl_lexer.proofs.Scans.{run_is, Closed, inside_is}
use Rattle.jexl_lexer.proofs.LongestSign.{Told, sign_told, at_least_one}

abbrev pub Tells : List ℕ → TokenRead → Type 0
Tells bs (Ok x) = Begins bs x.0 x.1
Tells bs (Err f) = FaultAt bs f

and_false : (a b : Bool) → (a && b) ≡ false → a ≡ true → b ≡ true → ⊥
and_false true b e f g = cc
and_false false b e f g = cc

decimal_is : (bs : List ℕ) → decimal bs ≡ true → IsDecimal bs
decimal_is [] e = absurd cc
decimal_is (b ∷ []) e = absurd cc
decimal_is (b ∷ c ∷ bs) e = let p = and_parts (b == 46) (is_digit c) e in (eqb-true b 46 p.0, p.1)

decimal_not : (bs : List ℕ) → decimal bs ≡ false → IsDecimal bs → ⊥
decimal_not [] e h = h
decimal_not (b ∷ []) e h = h
decimal_not (b ∷ c ∷ bs) e h = and_false (b == 46) (is_digit c) e (ap (λ (n : ℕ). n == 46) h.0) h.1

tells_value : (b : ℕ) (ds rest : List ℕ) (t : Bool) → AllPass is_digit (b ∷ ds) → Stops is_digit rest → (IsDecimal rest → ⊥) → nat_lt (value_from 0 (b ∷ ds)) (2 ^ 63) ≡ t → Tells (b ∷ (ds ++ rest)) (value_part (value_from 0 (b ∷ ds)) rest t)
tells_value b ds rest true p s n e = number b ds rest p s n (ltb-true (value_from 0 (b ∷ ds)) (2 ^ 63) e)
tells_value b ds rest false p s n e = big_number b ds rest p s n (ltb-false (value_from 0 (b ∷ ds)) (2 ^ 63) e)

tells_number : (b : ℕ) (ds rest : List ℕ) (t : Bool) → AllPass is_digit (b ∷ ds) → Stops is_digit rest → decimal rest ≡ t → Tells (b ∷ (ds ++ rest)) (number_part (b ∷ ds) rest t)
tells_number b ds rest true p s e = decimal_fault b ds rest p s (decimal_is rest e)
tells_number b ds rest false p s e = tells_value b ds rest (nat_lt (value_from 0 (b ∷ ds)) (2 ^ 63)) p s (decimal_not rest e) refl

tells_quote : (q : ℕ) (bs : List ℕ) (o : Option (List ℕ × List ℕ)) → is_quote q ≡ true → Closed q bs o → Tells (q ∷ bs) (quote_part o)
tells_quote q bs None e h = open_text q bs e h
tells_quote q bs (Some x) e h = subst (λ (w : List ℕ). Begins (q ∷ w) (kinds.Quoted x.0) x.1) (sym h.parts) (quoted q h.body x.0 x.1 e h.spelled)

tells_sign : (b : ℕ) (bs : List ℕ) (o : Option (Sign × List ℕ)) → is_digit b ≡ false → is_start b ≡ false → is_quote b ≡ false → Told (b ∷ bs) o → Tells (b ∷ bs) (sign_part o)
tells_sign b bs None d s q h = bad_char b bs d s q h
tells_sign b bs (Some x) d s q h =
    subst (λ (w : List ℕ). Begins w (kinds.Sign x.0) x.1) (sym h.0) (sign x.0 x.1 (subst (λ (w : List ℕ). IsLongest x.0 w) h.0 h.1))

tells_other : (b : ℕ) (bs : List ℕ) (t : Bool) → is_digit b ≡ false → is_start b ≡ false → is_quote b ≡ t → Tells (b ∷ bs) (other_part b bs t)
tells_other b bs true d s e = tells_quote b bs (inside b false bs) e (inside_is b false bs)
tells_other b bs false d s e = tells_sign b bs (first_sign all_signs (b ∷ bs)) d s e (sign_told (b ∷ bs))

tells_name : (b : ℕ) (bs : List ℕ) (t : Bool) → is_digit b ≡ false → is_start b ≡ t → Tells (b ∷ bs) (name_part b bs t)
tells_name b bs true d e =
    let r = run_is is_word bs in
    subst (λ (w : List ℕ). Begins (b ∷ w) (kinds.Name (b ∷ (run is_word bs).0)) (run is_word bs).1) (sym r.parts) (name b (run is_word bs).0 (run is_word bs).1 e r.pass r.stop)
tells_name b bs false d e = tells_other b bs (is_quote b) d e refl

tells_part : (b : ℕ) (bs : List ℕ) (t : Bool) → is_digit b ≡ t → Tells (b ∷ bs) (token_part b bs t)
tells_part b bs true e =
    let r = run_is is_digit bs in
    let x = run is_digit bs in
    subst (λ (w : List ℕ). Tells (b ∷ w) (number_part (b ∷ (run is_digit bs).0) (run is_digit bs).1 (decimal (run is_digit bs).1))) (sym r.parts) (tells_number b (run is_digit bs).0 (run is_digit bs).1 (decimal (run is_digit bs).1) (e, r.pass) r.stop refl)
tells_part b bs false e = tells_name b bs (is_start b) e refl

-- the token, or the fault, at the front
pub tells : (b : ℕ) (bs : List ℕ) → Tells (b ∷ bs) (token_at b bs)
unfolding token_at
tells b bs = tells_part b bs (is_digit b) refl

-- a token takes at least one byte
pub shrinks : {bs rest : List ℕ} {k : TokenKind} → Begins bs k rest → length rest < length bs
shrinks (number d ds rest p s n v) = omega (arith, length-append ds rest)
shrinks (name b bs rest e p s) = omega (arith, length-append bs rest)
shrinks (quoted q body text rest e i) = omega (arith, length-append body (q ∷ rest))
shrinks (sign s rest l) = omega (arith, length-append (sign_text s) rest, at_least_one s)

-- all of the bytes
abbrev pub Lexed : ℕ → ℕ → List ℕ → AllRead → Type 0
Lexed n place bs (Ok ts) = Lexes n place bs ts
Lexed n place bs (Err e) = Faults n place bs e.0 e.1

lexed_skip : (n place b : ℕ) (bs : List ℕ) (r : AllRead) → is_blank b ≡ true → Lexed n (suc place) bs r → Lexed n place (b ∷ bs) r
lexed_skip n place b bs (Ok ts) e h = skip b e h
lexed_skip n place b bs (Err f) e h = skip_on b e h

lexed_next : (n place end : ℕ) (bs rest : List ℕ) (k : TokenKind) (r : AllRead) → n < MAX_TOKENS → Begins bs k rest → place + length bs ≡ end + length rest → Lexed (suc n) end rest r → Lexed n place bs (in_front (record { kind = k; start = place; end = end }) r)
lexed_next n place end bs rest k (Ok ts) lt d e h = next place end k lt d e h
lexed_next n place end bs rest k (Err f) lt d e h = next_on place end k lt d e h

module _ (f : ℕ → ℕ → List ℕ → AllRead) (size : ℕ) (h : (n place : ℕ) (bs : List ℕ) → length bs < size → n ≤ MAX_TOKENS → Lexed n place bs (f n place bs)) where
  lexed_token : (n place b : ℕ) (bs : List ℕ) (t : TokenRead) → length bs < size → n < MAX_TOKENS → is_blank b ≡ false → Tells (b ∷ bs) t → Lexed n place (b ∷ bs) (after_token f n place (b ∷ bs) t)
  lexed_token n place b bs (Err e) le lt blank d = here place b lt blank d
  lexed_token n place b bs (Ok x) le lt blank d =
      let s = shrinks d in
      let end = end_of place (b ∷ bs) x.1 in
      lexed_next n place end (b ∷ bs) x.1 x.0 (f (suc n) end x.1) lt d (omega arith) (h (suc n) end x.1 (omega arith) (omega arith))

  lexed_room : (n place b : ℕ) (bs : List ℕ) (t : Bool) → length bs < size → n ≤ MAX_TOKENS → is_blank b ≡ false → nat_lt n MAX_TOKENS ≡ t → Lexed n place (b ∷ bs) (room_part f n place b bs t)
  lexed_room n place b bs true le few blank e = lexed_token n place b bs (token_at b bs) le (ltb-true n MAX_TOKENS e) blank (tells b bs)
  lexed_room n place b bs false le few blank e =
      let more = ltb-false n MAX_TOKENS e in
      let all : MAX_TOKENS ≡ n = omega arith in
      subst (λ (m : ℕ). Faults m place (b ∷ bs) TooManyTokens place) all (too_many place b bs blank)

  lexed_blank : (n place b : ℕ) (bs : List ℕ) (t : Bool) → length bs < size → n ≤ MAX_TOKENS → is_blank b ≡ t → Lexed n place (b ∷ bs) (blank_part f n place b bs t)
  lexed_blank n place b bs true le few e = lexed_skip n place b bs (f n (suc place) bs) e (h n (suc place) bs le few)
  lexed_blank n place b bs false le few e = lexed_room n place b bs (nat_lt n MAX_TOKENS) le few e refl

-- lexing gives the tokens, or the first fault with its place
pub lexed : (m n place : ℕ) (bs : List ℕ) → length bs < m → n ≤ MAX_TOKENS → Lexed n place bs (lex_from m n place bs)
unfolding lex_from
lexed zero n place bs le few = absurd (omega arith)
lexed (suc m) n place [] le few = done n place
lexed (suc m) n place (b ∷ bs) le few = lexed_blank (lex_from m) m (λ i p cs l w. lexed m i p cs l w) n place b bs (is_blank b) (omega arith) few refl
