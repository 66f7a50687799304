-- What is spelled is what lexing gives.
use Rattle.std.proofs.Common.{◌≡◌, ◌≢◌, ℕ, zero, suc, ◌+◌, ◌^◌, ◌<◌, Bool, true, false, cond, List, [], ◌∷◌, ◌++◌, length, Option, Some, None, Ok, Err, refl, sym, ap, ◌∙◌, arith, ◌⊎◌, inl, inr}
use Rattle.std.specs.Prelude.{◌==◌}
use Rattle.std.proofs.lemmas.Bool.{eq-eqb, lt-ltb, le-ltb, and_from}
use Rattle.std.proofs.lemmas.Bool.Decides.{nat_tests}
use Rattle.jexl_lexer.specs.declared.lexer.TheConstants.{MAX_TOKENS}
use Rattle.jexl_lexer.specs.declared.token.Token.{Token}
use Rattle.jexl_lexer.specs.declared.token.TokenKind.{TokenKind}
use Rattle.jexl_lexer.specs.declared.token.TokenKind.TheVariants as kinds
use Rattle.sequences.specs.Runs.{value_from}
use Rattle.jexl_lexer.specs.Lexing.{is_blank, is_digit, is_start, is_word, is_quote, AllPass, Stops, IsDecimal, sign_text, IsLongest, NoSign, Begins, number, name, quoted, sign, Fault, FaultAt, decimal as decimal_fault, big_number, open_text, bad_char}
use Rattle.jexl_lexer.specs.Scanning.{inside, first_sign, all_signs}
use Rattle.jexl_lexer.specs.Reading.{TokenRead, decimal, value_part, number_part, quote_part, sign_part, other_part, name_part, token_part, token_at, token_of}
use Rattle.std.proofs.lemmas.List.{take_at, drop_at}
use Rattle.std.specs.Prelude.{bytes_eq, take, drop}
use Rattle.jexl_lexer.specs.declared.token.Sign.{Sign}
use Rattle.jexl_lexer.specs.declared.token.Sign.TheVariants as signs
use Rattle.jexl_lexer.specs.Lexing.{Lexes, done, skip, next, Faults, skip_on, next_on, too_many, here}
use Rattle.jexl_lexer.specs.Reading.{AllRead, in_front, end_of, after_token, room_part, blank_part, lex_from}
use Rattle.jexl_lexer.proofs.LongestSign.{Told, sign_told}
use Rattle.jexl_lexer.proofs.Soundness.{shrinks, Lexed, lexed}
use Rattle.jexl_lexer.specs.Laws.{OneList, OneFault, NeverBoth, AlwaysOne}
use Rattle.jexl_lexer.proofs.Scans.{run_there, inside_there, never_there}

pub start_no_digit : (b : ℕ) → is_start b ≡ true → is_digit b ≡ false
start_no_digit b h = grind (arith, nat_tests)

quote_no_digit : (b : ℕ) → is_quote b ≡ true → is_digit b ≡ false
quote_no_digit b h = grind (arith, nat_tests)

quote_no_start : (b : ℕ) → is_quote b ≡ true → is_start b ≡ false
quote_no_start b h = grind (arith, nat_tests)

quote_no_backslash : (b : ℕ) → is_quote b ≡ true → b ≢ 92
quote_no_backslash b h e = let g : is_quote 92 ≡ true = ap is_quote (sym e) ∙ h in cc

not_decimal : (bs : List ℕ) → (IsDecimal bs → ⊥) → (t : Bool) → decimal bs ≡ t → t ≡ false
not_decimal bs n false e = refl
not_decimal [] n true e = cc
not_decimal (b ∷ []) n true e = cc
not_decimal (b ∷ c ∷ bs) n true e = grind arith

-- the sign of a text
abbrev sign_of_text : List Sign → List ℕ → Option Sign
sign_of_text [] t = None
sign_of_text (s ∷ ss) t = cond (bytes_eq (sign_text s) t) (Some s) (sign_of_text ss t)

of_text : (s : Sign) → sign_of_text all_signs (sign_text s) ≡ Some s
of_text signs.And = refl
of_text signs.Or = refl
of_text signs.Equal = refl
of_text signs.NotEqual = refl
of_text signs.AtMost = refl
of_text signs.AtLeast = refl
of_text signs.FloorDiv = refl
of_text signs.Less = refl
of_text signs.Greater = refl
of_text signs.Plus = refl
of_text signs.Minus = refl
of_text signs.Star = refl
of_text signs.Percent = refl
of_text signs.Caret = refl
of_text signs.Bang = refl
of_text signs.Question = refl
of_text signs.Colon = refl
of_text signs.Dot = refl
of_text signs.Comma = refl
of_text signs.LeftRound = refl
of_text signs.RightRound = refl
of_text signs.LeftSquare = refl
of_text signs.RightSquare = refl
of_text signs.LeftBrace = refl
of_text signs.RightBrace = refl
of_text signs.Bar = refl

abbrev some_sign : Sign → Option Sign
some_sign s = Some s

abbrev found : Sign → List ℕ → Option (Sign × List ℕ)
found s rest = Some (s, rest)

same_text : (s r : Sign) → sign_text s ≡ sign_text r → s ≡ r
same_text s r e = let p : some_sign s ≡ some_sign r = sym (of_text s) ∙ ap (sign_of_text all_signs) e ∙ of_text r in cc

sign_by : (s : Sign) (rest : List ℕ) (o : Option (Sign × List ℕ)) → IsLongest s (sign_text s ++ rest) → Told (sign_text s ++ rest) o → o ≡ found s rest
sign_by s rest None l t = absurd (t s rest refl)
sign_by s rest (Some x) l t =
    let n = length (sign_text s) in
    let same : length (sign_text x.0) ≡ n = omega (arith, l x.0 x.1 t.0, t.1 s rest refl) in
    let front : sign_text s ≡ sign_text x.0 = sym (take_at (sign_text s) rest n refl) ∙ ap (take n) t.0 ∙ take_at (sign_text x.0) x.1 n same in
    let back : rest ≡ x.1 = sym (drop_at (sign_text s) rest n refl) ∙ ap (drop n) t.0 ∙ drop_at (sign_text x.0) x.1 n same in
    let signs_same = same_text s x.0 front in
    ap (λ (r : Sign). found r x.1) (sym signs_same) ∙ ap (found s) (sym back)

pub sign_found : (s : Sign) (rest : List ℕ) → IsLongest s (sign_text s ++ rest) → first_sign all_signs (sign_text s ++ rest) ≡ found s rest
sign_found s rest l = sign_by s rest (first_sign all_signs (sign_text s ++ rest)) l (sign_told (sign_text s ++ rest))

none_by : (bs : List ℕ) (o : Option (Sign × List ℕ)) → NoSign bs → Told bs o → o ≡ None
none_by bs None n t = refl
none_by bs (Some x) n t = absurd (n x.0 x.1 t.0)

pub sign_missing : (bs : List ℕ) → NoSign bs → first_sign all_signs bs ≡ None
sign_missing bs n = none_by bs (first_sign all_signs bs) n (sign_told bs)

sign_front : (s : Sign) (rest : List ℕ) → token_of (sign_text s ++ rest) ≡ sign_part (first_sign all_signs (sign_text s ++ rest))
unfolding token_at
sign_front signs.And rest = refl
sign_front signs.Or rest = refl
sign_front signs.Equal rest = refl
sign_front signs.NotEqual rest = refl
sign_front signs.AtMost rest = refl
sign_front signs.AtLeast rest = refl
sign_front signs.FloorDiv rest = refl
sign_front signs.Less rest = refl
sign_front signs.Greater rest = refl
sign_front signs.Plus rest = refl
sign_front signs.Minus rest = refl
sign_front signs.Star rest = refl
sign_front signs.Percent rest = refl
sign_front signs.Caret rest = refl
sign_front signs.Bang rest = refl
sign_front signs.Question rest = refl
sign_front signs.Colon rest = refl
sign_front signs.Dot rest = refl
sign_front signs.Comma rest = refl
sign_front signs.LeftRound rest = refl
sign_front signs.RightRound rest = refl
sign_front signs.LeftSquare rest = refl
sign_front signs.RightSquare rest = refl
sign_front signs.LeftBrace rest = refl
sign_front signs.RightBrace rest = refl
sign_front signs.Bar rest = refl

number_front : (d : ℕ) (ds rest : List ℕ) → AllPass is_digit (d ∷ ds) → Stops is_digit rest → token_of (d ∷ (ds ++ rest)) ≡ number_part (d ∷ ds) rest (decimal rest)
unfolding token_at
number_front d ds rest p s =
    ap (token_part d (ds ++ rest)) p.0 ∙ ap (λ (x : List ℕ × List ℕ). number_part (d ∷ x.0) x.1 (decimal x.1)) (run_there is_digit ds rest p.1 s)

quote_front : (q : ℕ) (bs : List ℕ) → is_quote q ≡ true → token_of (q ∷ bs) ≡ quote_part (inside q false bs)
unfolding token_at
quote_front q bs e = ap (token_part q bs) (quote_no_digit q e) ∙ ap (name_part q bs) (quote_no_start q e) ∙ ap (other_part q bs) e

abbrev name_read : List ℕ → List ℕ → TokenRead
name_read n rest = Ok (kinds.Name n, rest)

-- what is spelled at the front is read
pub token_only : {bs rest : List ℕ} {k : TokenKind} → Begins bs k rest → token_of bs ≡ Ok (k, rest)
unfolding token_at
token_only (number d ds rest p s n v) =
    number_front d ds rest p s ∙ ap (number_part (d ∷ ds) rest) (not_decimal rest n (decimal rest) refl) ∙ ap (value_part (value_from 0 (d ∷ ds)) rest) (lt-ltb (value_from 0 (d ∷ ds)) (2 ^ 63) v)
token_only (name b bs rest e p s) =
    ap (token_part b (bs ++ rest)) (start_no_digit b e) ∙ ap (name_part b (bs ++ rest)) e ∙ ap (λ (x : List ℕ × List ℕ). name_read (b ∷ x.0) x.1) (run_there is_word bs rest p s)
token_only (quoted q body text rest e i) = quote_front q (body ++ (q ∷ rest)) e ∙ ap quote_part (inside_there q body text rest (quote_no_backslash q e) i)
token_only (sign s rest l) = sign_front s rest ∙ ap sign_part (sign_found s rest l)

is_decimal : (bs : List ℕ) → IsDecimal bs → decimal bs ≡ true
is_decimal [] h = absurd h
is_decimal (b ∷ []) h = absurd h
is_decimal (b ∷ c ∷ bs) h = and_from (b == 46) (is_digit c) (eq-eqb b 46 h.0) h.1

-- and a fault at the front is found
pub fault_only : {bs : List ℕ} {f : Fault} → FaultAt bs f → token_of bs ≡ Err f
unfolding token_at
fault_only (decimal_fault d ds rest p s h) = number_front d ds rest p s ∙ ap (number_part (d ∷ ds) rest) (is_decimal rest h)
fault_only (big_number d ds rest p s n v) =
    number_front d ds rest p s ∙ ap (number_part (d ∷ ds) rest) (not_decimal rest n (decimal rest) refl) ∙ ap (value_part (value_from 0 (d ∷ ds)) rest) (le-ltb (value_from 0 (d ∷ ds)) (2 ^ 63) v)
fault_only (open_text q body e h) = quote_front q body e ∙ ap quote_part (never_there q body (quote_no_backslash q e) h)
fault_only (bad_char b bs d s q n) =
    ap (token_part b bs) d ∙ ap (name_part b bs) s ∙ ap (other_part b bs) q ∙ ap sign_part (sign_missing (b ∷ bs) n)

-- a token begins with a byte that isn't blank
record Front (bs : List ℕ) : Type 0 where
  byte : ℕ
  more : List ℕ
  parts : bs ≡ byte ∷ more
  seen : is_blank byte ≡ false

digit_no_blank : (b : ℕ) → is_digit b ≡ true → is_blank b ≡ false
digit_no_blank b h = grind (arith, nat_tests)

start_no_blank : (b : ℕ) → is_start b ≡ true → is_blank b ≡ false
start_no_blank b h = grind (arith, nat_tests)

quote_no_blank : (b : ℕ) → is_quote b ≡ true → is_blank b ≡ false
quote_no_blank b h = grind (arith, nat_tests)

sign_seen : (s : Sign) (rest : List ℕ) → Front (sign_text s ++ rest)
sign_seen signs.And rest = record { byte = _; more = _; parts = refl; seen = refl }
sign_seen signs.Or rest = record { byte = _; more = _; parts = refl; seen = refl }
sign_seen signs.Equal rest = record { byte = _; more = _; parts = refl; seen = refl }
sign_seen signs.NotEqual rest = record { byte = _; more = _; parts = refl; seen = refl }
sign_seen signs.AtMost rest = record { byte = _; more = _; parts = refl; seen = refl }
sign_seen signs.AtLeast rest = record { byte = _; more = _; parts = refl; seen = refl }
sign_seen signs.FloorDiv rest = record { byte = _; more = _; parts = refl; seen = refl }
sign_seen signs.Less rest = record { byte = _; more = _; parts = refl; seen = refl }
sign_seen signs.Greater rest = record { byte = _; more = _; parts = refl; seen = refl }
sign_seen signs.Plus rest = record { byte = _; more = _; parts = refl; seen = refl }
sign_seen signs.Minus rest = record { byte = _; more = _; parts = refl; seen = refl }
sign_seen signs.Star rest = record { byte = _; more = _; parts = refl; seen = refl }
sign_seen signs.Percent rest = record { byte = _; more = _; parts = refl; seen = refl }
sign_seen signs.Caret rest = record { byte = _; more = _; parts = refl; seen = refl }
sign_seen signs.Bang rest = record { byte = _; more = _; parts = refl; seen = refl }
sign_seen signs.Question rest = record { byte = _; more = _; parts = refl; seen = refl }
sign_seen signs.Colon rest = record { byte = _; more = _; parts = refl; seen = refl }
sign_seen signs.Dot rest = record { byte = _; more = _; parts = refl; seen = refl }
sign_seen signs.Comma rest = record { byte = _; more = _; parts = refl; seen = refl }
sign_seen signs.LeftRound rest = record { byte = _; more = _; parts = refl; seen = refl }
sign_seen signs.RightRound rest = record { byte = _; more = _; parts = refl; seen = refl }
sign_seen signs.LeftSquare rest = record { byte = _; more = _; parts = refl; seen = refl }
sign_seen signs.RightSquare rest = record { byte = _; more = _; parts = refl; seen = refl }
sign_seen signs.LeftBrace rest = record { byte = _; more = _; parts = refl; seen = refl }
sign_seen signs.RightBrace rest = record { byte = _; more = _; parts = refl; seen = refl }
sign_seen signs.Bar rest = record { byte = _; more = _; parts = refl; seen = refl }

front_of : {bs rest : List ℕ} {k : TokenKind} → Begins bs k rest → Front bs
front_of (number d ds rest p s n v) = record { byte = d; more = ds ++ rest; parts = refl; seen = digit_no_blank d p.0 }
front_of (name b bs rest e p s) = record { byte = b; more = bs ++ rest; parts = refl; seen = start_no_blank b e }
front_of (quoted q body text rest e i) = record { byte = q; more = body ++ (q ∷ rest); parts = refl; seen = quote_no_blank q e }
front_of (sign s rest l) = sign_seen s rest

one_turn : (m n place : ℕ) (bs rest : List ℕ) (k : TokenKind) → Front bs → n < MAX_TOKENS → token_of bs ≡ Ok (k, rest) → lex_from (suc m) n place bs ≡ after_token (lex_from m) n place bs (Ok (k, rest))
unfolding lex_from
one_turn m n place bs rest k w few t =
    let b = w.byte in
    let cs = w.more in
    let read : token_at b cs ≡ Ok (k, rest) = sym (ap token_of w.parts) ∙ t in
    ap (lex_from (suc m) n place) w.parts
    ∙ ap (blank_part (lex_from m) n place b cs) w.seen
    ∙ ap (room_part (lex_from m) n place b cs) (lt-ltb n MAX_TOKENS few)
    ∙ ap (after_token (lex_from m) n place (b ∷ cs)) read
    ∙ ap (λ (x : List ℕ). after_token (lex_from m) n place x (Ok (k, rest))) (sym w.parts)

abbrev turn : ℕ → ℕ → ℕ → ℕ → List ℕ → TokenKind → AllRead
turn m n place end rest k = in_front (record { kind = k; start = place; end = end }) (lex_from m (suc n) end rest)

turned : (m n place end : ℕ) (bs rest : List ℕ) (k : TokenKind) → n < MAX_TOKENS → Begins bs k rest → place + length bs ≡ end + length rest → lex_from (suc m) n place bs ≡ turn m n place end rest k
turned m n place end bs rest k few d e =
    let s = shrinks d in
    let at : end_of place bs rest ≡ end = omega arith in
    one_turn m n place bs rest k (front_of d) few (token_only d) ∙ ap (λ (x : ℕ). turn m n place x rest k) at

-- the tokens are those that lexing gives
pub lexes_only : (m : ℕ) {n place : ℕ} {bs : List ℕ} {ts : List Token} → Lexes n place bs ts → length bs < m → lex_from m n place bs ≡ Ok ts
unfolding lex_from
lexes_only zero d lt = absurd (omega arith)
lexes_only (suc m) (done n place) lt = refl
lexes_only (suc m) (skip {n = n} {place = place} {bs = bs} b e d) lt =
    ap (blank_part (lex_from m) n place b bs) e ∙ lexes_only m d (omega arith)
lexes_only (suc m) (next {n = n} {bs = bs} {rest = rest} place end k few b e d) lt =
    let s = shrinks b in
    turned m n place end bs rest k few b e ∙ ap (in_front (record { kind = k; start = place; end = end })) (lexes_only m d (omega arith))

-- and the fault is the one that lexing gives
pub faults_only : (m : ℕ) {n place at : ℕ} {bs : List ℕ} {f : Fault} → Faults n place bs f at → length bs < m → lex_from m n place bs ≡ Err (f, at)
unfolding lex_from
faults_only zero d lt = absurd (omega arith)
faults_only (suc m) (skip_on {n = n} {place = place} {bs = bs} b e d) lt =
    ap (blank_part (lex_from m) n place b bs) e ∙ faults_only m d (omega arith)
faults_only (suc m) (next_on {n = n} {bs = bs} {rest = rest} place end k few b e d) lt =
    let s = shrinks b in
    turned m n place end bs rest k few b e ∙ ap (in_front (record { kind = k; start = place; end = end })) (faults_only m d (omega arith))
faults_only (suc m) (too_many place b bs e) lt =
    ap (blank_part (lex_from m) MAX_TOKENS place b bs) e
faults_only (suc m) (here {n = n} {bs = bs} place b few e d) lt =
    ap (blank_part (lex_from m) n place b bs) e
    ∙ ap (room_part (lex_from m) n place b bs) (lt-ltb n MAX_TOKENS few)
    ∙ ap (after_token (lex_from m) n place (b ∷ bs)) (fault_only d)

-- so a text has one list of tokens or one first fault
pub one_list : OneList
one_list bs ts us d e = let m = suc (length bs) in let p = lexes_only m d (omega arith) in let q = lexes_only m e (omega arith) in cc

pub one_fault : OneFault
one_fault bs f g at to d e = let m = suc (length bs) in let p = faults_only m d (omega arith) in let q = faults_only m e (omega arith) in
    let x : Fault × ℕ = (f, at) in
    let y : Fault × ℕ = (g, to) in
    let same : x ≡ y = cc in
    (ap (λ (z : Fault × ℕ). z.0) same, ap (λ (z : Fault × ℕ). z.1) same)

pub never_both : NeverBoth
never_both bs ts f at d e = let m = suc (length bs) in let p = lexes_only m d (omega arith) in let q = faults_only m e (omega arith) in cc

pub always_one : AlwaysOne
always_one bs = always_by bs (lex_from (suc (length bs)) 0 0 bs) (lexed (suc (length bs)) 0 0 bs (omega arith) (omega arith))
  where
    always_by : (bs : List ℕ) (r : AllRead) → Lexed 0 0 bs r → ((ts : List Token) × Lexes 0 0 bs ts) ⊎ ((f : Fault) × (at : ℕ) × Faults 0 0 bs f at)
    always_by bs (Ok ts) h = inl (ts, h)
    always_by bs (Err e) h = inr (e.0, e.1, h)
