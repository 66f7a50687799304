-- The spans of tokens rise, each token is read from its slice, and only blanks stand outside.
use Rattle.std.proofs.Common.{◌≡◌, ℕ, ◌+◌, ◌-◌, ◌≤◌, true, List, [], ◌∷◌, ◌++◌, length, refl, sym, ap, subst, ◌∙◌, arith, length-append, append_assoc, append-nil}
use Rattle.std.specs.Prelude.{All, take, drop}
use Rattle.std.proofs.lemmas.List.{take_at, drop_at}
use Rattle.std.proofs.lemmas.List.Elements.{All-nil, All-cons}
use Rattle.jexl_lexer.specs.declared.token.Token.{Token}
use Rattle.jexl_lexer.specs.declared.token.TokenKind.{TokenKind}
use Rattle.jexl_lexer.specs.Lexing.{is_blank, AllPass, sign_text, Begins, number, name, quoted, sign, Lexes, done, skip, next}
use Rattle.jexl_lexer.specs.Spans.{slice, SpansRise, BlanksOutside, IsSpelled, IsReadFrom}
use Rattle.jexl_lexer.proofs.Soundness.{shrinks}

-- what a token at the front takes
record Takes (bytes : List ℕ) (k : TokenKind) (rest : List ℕ) : Type 0 where
  written : List ℕ
  parts : bytes ≡ written ++ rest
  spelled : IsSpelled k written

takes : {bytes rest : List ℕ} {k : TokenKind} → Begins bytes k rest → Takes bytes k rest
takes (number d ds rest p s n v) = record { written = d ∷ ds; parts = refl; spelled = (p, refl) }
takes (name b bs rest e p s) = record { written = b ∷ bs; parts = refl; spelled = refl }
takes (quoted q body text rest e i) =
    record {
      written = q ∷ (body ++ (q ∷ []));
      parts = ap (λ (w : List ℕ). q ∷ w) (sym (append_assoc body (q ∷ []) rest));
      spelled = record { quote = q; body = body; is_quote = e; parts = refl; inside = i };
    }
takes (sign s rest l) = record { written = sign_text s; parts = refl; spelled = refl }

-- the middle of three parts
slice_of : (bytes first middle last : List ℕ) (start end : ℕ) → bytes ≡ first ++ (middle ++ last) → start ≡ length first → end ≡ start + length middle → slice bytes start end ≡ middle
slice_of bytes first middle last start end e s n =
    ap (λ (w : List ℕ). take (end - start) (drop start w)) e
    ∙ ap (take (end - start)) (drop_at first (middle ++ last) start (sym s))
    ∙ take_at middle last (end - start) (omega arith)

rise : (size start : ℕ) {n place : ℕ} {bytes : List ℕ} {ts : List Token} → Lexes n place bytes ts → place + length bytes ≡ size → start ≤ place → SpansRise start size ts
rise size start (done n place) e l = omega arith
rise size start (skip b blank d) e l = rise size start d (omega arith) (omega arith)
rise size start (next place end k few b q d) e l = let s = shrinks b in (l, omega arith, rise size end d (omega arith) (omega arith))

-- each span ends after it starts, and starts no earlier than the one before it ends
pub spans_rise : (bytes : List ℕ) (ts : List Token) → Lexes 0 0 bytes ts → SpansRise 0 (length bytes) ts
spans_rise bytes ts d = rise (length bytes) 0 d (omega arith) (omega arith)

all_pass_push : (xs : List ℕ) (b : ℕ) → AllPass is_blank xs → is_blank b ≡ true → AllPass is_blank (xs ++ (b ∷ []))
all_pass_push [] b p e = (e, tt)
all_pass_push (x ∷ xs) b p e = (p.0, all_pass_push xs b p.1 e)

outside : (bytes first blanks : List ℕ) (start : ℕ) {n place : ℕ} {rest : List ℕ} {ts : List Token} → Lexes n place rest ts → bytes ≡ first ++ (blanks ++ rest) → start ≡ length first → place ≡ start + length blanks → AllPass is_blank blanks
    → BlanksOutside bytes start ts
outside bytes first blanks start (done n place) e s m p =
    let all : drop start bytes ≡ blanks = ap (drop start) e ∙ drop_at first (blanks ++ []) start (sym s) ∙ append-nil blanks in
    subst (λ (w : List ℕ). AllPass is_blank w) (sym all) p
outside bytes first blanks start (skip {bs = bs} b blank d) e s m p =
    outside bytes first (blanks ++ (b ∷ [])) start d (e ∙ ap (λ (w : List ℕ). first ++ w) (sym (append_assoc blanks (b ∷ []) bs))) s (omega (arith, m, length-append blanks (b ∷ []))) (all_pass_push blanks b p blank)
outside bytes first blanks start (next {bs = bs} {rest = rest} place end k few b q d) e s m p =
    let t = takes b in
    let w = t.written in
    let parts : bytes ≡ (first ++ (blanks ++ w)) ++ rest =
    e ∙ ap (λ (v : List ℕ). first ++ (blanks ++ v)) t.parts ∙ ap (λ (v : List ℕ). first ++ v) (sym (append_assoc blanks w rest)) ∙ sym (append_assoc first (blanks ++ w) rest) in
    let long : length bs ≡ length (w ++ rest) = ap (λ (v : List ℕ). length v) t.parts in
    let to : end ≡ length (first ++ (blanks ++ w)) = omega (arith, s, m, q, long, length-append w rest, length-append blanks w, length-append first (blanks ++ w)) in
    (subst (λ (v : List ℕ). AllPass is_blank v) (sym (slice_of bytes first blanks bs start place e s m)) p, outside bytes (first ++ (blanks ++ w)) [] end d parts to (omega arith) tt)

-- only blanks stand outside
pub blanks_outside : (bytes : List ℕ) (ts : List Token) → Lexes 0 0 bytes ts → BlanksOutside bytes 0 ts
blanks_outside bytes ts d = outside bytes [] [] 0 d refl refl refl tt

reads : (bytes first : List ℕ) {n place : ℕ} {rest : List ℕ} {ts : List Token} → Lexes n place rest ts → bytes ≡ first ++ rest → place ≡ length first → All (IsReadFrom bytes) ts
reads bytes first (done n place) e s = All-nil (IsReadFrom bytes)
reads bytes first (skip {bs = bs} b blank d) e s =
    reads bytes (first ++ (b ∷ [])) d (e ∙ sym (append_assoc first (b ∷ []) bs)) (omega (arith, s, length-append first (b ∷ [])))
reads bytes first (next {bs = bs} {rest = rest} {ts = ts} place end k few b q d) e s =
    let t = takes b in
    let w = t.written in
    let parts : bytes ≡ first ++ (w ++ rest) = e ∙ ap (λ (v : List ℕ). first ++ v) t.parts in
    let long : length bs ≡ length (w ++ rest) = ap (λ (v : List ℕ). length v) t.parts in
    let wide : end ≡ place + length w = omega (arith, q, long, length-append w rest) in
    let read : IsSpelled k (slice bytes place end) = subst (λ (v : List ℕ). IsSpelled k v) (sym (slice_of bytes first w rest place end parts s wide)) t.spelled in
    All-cons (IsReadFrom bytes) _ ts read (reads bytes (first ++ w) d (parts ∙ sym (append_assoc first w rest)) (omega (arith, s, wide, length-append first w)))

-- each token is read from its slice
pub read_from : (bytes : List ℕ) (ts : List Token) → Lexes 0 0 bytes ts → All (IsReadFrom bytes) ts
read_from bytes ts d = reads bytes [] d refl refl
