-- The loop of the lexer: a turn takes one token and the blanks after it.
use Rattle.std.proofs.Common.{◌≡◌, ℕ, suc, ◌+◌, ◌-◌, ◌<◌, ◌≤◌, Bool, true, false, cond, List, [], ◌∷◌, ◌++◌, length, Ok, Err, refl, sym, ap, subst, ◌∙◌, arith, length-append, append_assoc, append-nil}
use Rattle.jexl_lexer.specs.declared.lexer.TheConstants.{MAX_TOKENS}
use Rattle.jexl_lexer.specs.declared.token.Token.{Token}
use Rattle.jexl_lexer.specs.declared.token.TokenKind.{TokenKind}
use Rattle.jexl_lexer.specs.declared.fault.LexFault.{LexFault}
use Rattle.jexl_lexer.specs.declared.fault.LexFault.TheVariants as faults
use Rattle.jexl_lexer.specs.Lexing.{is_blank, Stops, Begins, Fault, FaultAt, BadChar, OpenText, BigNumber, Decimal, TooManyTokens, Lexes, done, skip, next, Faults, skip_on, next_on, too_many, here}
use Rattle.sequences.specs.Runs.{prepend, run}
use Rattle.jexl_lexer.specs.Reading.{TokenRead, token_of}
use Rattle.jexl_lexer.specs.Answering.{FaultsAs, FailsAs}
use Rattle.jexl_lexer.proofs.Soundness.{Tells, tells, shrinks}
use Rattle.jexl_lexer.proofs.Scans.{run_is}

abbrev pub span_of : TokenKind → ℕ → ℕ → Token
span_of k a b = record { kind = k; start = a; end = b }

-- what is lexed from this rest on is lexed from the start on, with these tokens before it
pub record Reaches (bytes rest : List ℕ) (so_far : List Token) : Type 0 where
  pub tokens : (ts : List Token) → Lexes (length so_far) (length bytes - length rest) rest ts → Lexes 0 0 bytes (so_far ++ ts)
  pub fault : (f : Fault) (at : ℕ) → Faults (length so_far) (length bytes - length rest) rest f at → Faults 0 0 bytes f at
  pub shorter : length rest ≤ length bytes

reaches_start : (bytes : List ℕ) → Reaches bytes bytes []
reaches_start bytes =
    let z : length bytes - length bytes ≡ 0 = omega arith in
    record {
      tokens = λ ts d. subst (λ (p : ℕ). Lexes 0 p bytes ts) z d;
      fault = λ f at d. subst (λ (p : ℕ). Faults 0 p bytes f at) z d;
      shorter = omega arith;
    }

past_blank : (bytes rest : List ℕ) (b : ℕ) (so_far : List Token) → is_blank b ≡ true → Reaches bytes (b ∷ rest) so_far → Reaches bytes rest so_far
past_blank bytes rest b so_far e r =
    let s = r.shorter in
    let z : length bytes - length rest ≡ suc (length bytes - length (b ∷ rest)) = omega (arith, s) in
    record {
      tokens = λ ts d. r.tokens ts (skip b e (subst (λ (p : ℕ). Lexes (length so_far) p rest ts) z d));
      fault = λ f at d. r.fault f at (skip_on b e (subst (λ (p : ℕ). Faults (length so_far) p rest f at) z d));
      shorter = omega (arith, s);
    }

blanks_by : (bytes rest : List ℕ) (b : ℕ) (so_far : List Token) (t : Bool) → is_blank b ≡ t → Reaches bytes (b ∷ rest) so_far → (Reaches bytes rest so_far → Reaches bytes (run is_blank rest).1 so_far) → Reaches bytes (cond t (prepend b (run is_blank rest)) ([], b ∷ rest)).1 so_far
blanks_by bytes rest b so_far true e r h = h (past_blank bytes rest b so_far e r)
blanks_by bytes rest b so_far false e r h = r

past_blanks : (bytes rest : List ℕ) (so_far : List Token) → Reaches bytes rest so_far → Reaches bytes (run is_blank rest).1 so_far
unfolding run
past_blanks bytes [] so_far r = r
past_blanks bytes (b ∷ rest) so_far r = blanks_by bytes rest b so_far (is_blank b) refl r (past_blanks bytes rest so_far)

begins_by : (rest after : List ℕ) (k : TokenKind) → token_of rest ≡ Ok (k, after) → Begins rest k after
begins_by [] after k e = absurd cc
begins_by (b ∷ bs) after k e = subst (λ (t : TokenRead). Tells (b ∷ bs) t) e (tells b bs)

fault_by : (b : ℕ) (bs : List ℕ) (f : Fault) → token_of (b ∷ bs) ≡ Err f → FaultAt (b ∷ bs) f
fault_by b bs f e = subst (λ (t : TokenRead). Tells (b ∷ bs) t) e (tells b bs)

past_token : (bytes rest after : List ℕ) (k : TokenKind) (so_far : List Token) → length so_far < MAX_TOKENS → token_of rest ≡ Ok (k, after) → Reaches bytes rest so_far
    → Reaches bytes after (so_far ++ (record { kind = k; start = length bytes - length rest; end = length bytes - length after } ∷ []))
past_token bytes rest after k so_far few e r =
    let s = r.shorter in
    let d = begins_by rest after k e in
    let l = shrinks d in
    let place = length bytes - length rest in
    let end = length bytes - length after in
    let t : Token = record { kind = k; start = place; end = end } in
    let n : length (so_far ++ (t ∷ [])) ≡ suc (length so_far) = omega (arith, length-append so_far (t ∷ [])) in
    let q : place + length rest ≡ end + length after = omega (arith, s, l) in
    record {
      tokens = λ ts h. subst (λ (w : List Token). Lexes 0 0 bytes w) (sym (append_assoc so_far (t ∷ []) ts)) (r.tokens (t ∷ ts) (next place end k few d q (subst (λ (m : ℕ). Lexes m end after ts) n h)));
      fault = λ f at h. r.fault f at (next_on place end k few d q (subst (λ (m : ℕ). Faults m end after f at) n h));
      shorter = omega (arith, s, l);
    }

-- the goals of the loop
pub begin : (bytes rest : List ℕ) → rest ≡ (run is_blank bytes).1 → Reaches bytes rest []
begin bytes rest e = subst (λ (w : List ℕ). Reaches bytes w []) (sym e) (past_blanks bytes bytes [] (reaches_start bytes))

pub stops_blank : (bs rest : List ℕ) → rest ≡ (run is_blank bs).1 → Stops is_blank rest
stops_blank bs rest e = subst (λ (w : List ℕ). Stops is_blank w) (sym e) (run_is is_blank bs).stop

pub turn : (bytes rest after more : List ℕ) (ts us : List Token) (k : TokenKind) → Reaches bytes rest ts → length ts < MAX_TOKENS → token_of rest ≡ Ok (k, after)
    → us ≡ ts ++ (span_of k (length bytes - length rest) (length bytes - length after) ∷ []) → more ≡ (run is_blank after).1 → Reaches bytes more us
turn bytes rest after more ts us k r few e eu em =
    let vs = ts ++ (span_of k (length bytes - length rest) (length bytes - length after) ∷ []) in
    let there = past_blanks bytes after vs (past_token bytes rest after k ts few e r) in
    subst (λ (w : List Token). Reaches bytes more w) (sym eu) (subst (λ (w : List ℕ). Reaches bytes w vs) (sym em) there)

pub one_more : (ts us : List Token) (t : Token) → us ≡ ts ++ (t ∷ []) → length ts < MAX_TOKENS → length us ≤ MAX_TOKENS
one_more ts us t e few = let l : length us ≡ length (ts ++ (t ∷ [])) = ap (λ (w : List Token). length w) e in omega (arith, l, few, length-append ts (t ∷ []))

run_short : (bs : List ℕ) → length (run is_blank bs).1 ≤ length bs
run_short bs = let r = run_is is_blank bs in let e : length bs ≡ length ((run is_blank bs).0 ++ (run is_blank bs).1) = ap (λ (w : List ℕ). length w) r.parts in omega (arith, e, length-append (run is_blank bs).0 (run is_blank bs).1)

pub not_past : (rest after : List ℕ) (k : TokenKind) → token_of rest ≡ Ok (k, after) → length after < length rest
not_past rest after k e = shrinks (begins_by rest after k e)

pub blanks_short : (bs rest : List ℕ) → rest ≡ (run is_blank bs).1 → length rest ≤ length bs
blanks_short bs rest e = let s = run_short bs in let f : length rest ≡ length (run is_blank bs).1 = ap (λ (w : List ℕ). length w) e in omega (arith, s, f)

pub falls : (rest after more : List ℕ) (k : TokenKind) → token_of rest ≡ Ok (k, after) → more ≡ (run is_blank after).1 → length more < length rest
falls rest after more k e em =
    let l = shrinks (begins_by rest after k e) in
    let s = run_short after in
    let f : length more ≡ length (run is_blank after).1 = ap (λ (w : List ℕ). length w) em in
    omega (arith, l, s, f)

pub finish : (bytes rest : List ℕ) (ts : List Token) → Reaches bytes rest ts → length rest ≡ 0 → Lexes 0 0 bytes ts
finish bytes [] ts r e = subst (λ (w : List Token). Lexes 0 0 bytes w) (append-nil ts) (r.tokens [] (done (length ts) (length bytes - 0)))
finish bytes (b ∷ bs) ts r e = absurd (omega arith)

pub too_many_there : (bytes rest : List ℕ) (ts : List Token) (place : ℕ) → Reaches bytes rest ts → Stops is_blank rest → (length rest ≡ 0 → ⊥) → length ts ≡ MAX_TOKENS → place ≡ length bytes - length rest → Faults 0 0 bytes TooManyTokens place
too_many_there bytes [] ts place r s n m e = absurd (n refl)
too_many_there bytes (b ∷ bs) ts place r s n m e =
    let z : MAX_TOKENS ≡ length ts = omega (arith, m) in
    subst (λ (p : ℕ). Faults 0 0 bytes TooManyTokens p) (sym e) (r.fault TooManyTokens (length bytes - length (b ∷ bs)) (subst (λ (c : ℕ). Faults c (length bytes - length (b ∷ bs)) (b ∷ bs) TooManyTokens (length bytes - length (b ∷ bs))) z (too_many (length bytes - length (b ∷ bs)) b bs s)))

fault_there : (bytes rest : List ℕ) (ts : List Token) (place p : ℕ) (f : Fault) → Reaches bytes rest ts → Stops is_blank rest → (length rest ≡ 0 → ⊥) → length ts < MAX_TOKENS → place ≡ length bytes - length rest → p ≡ place → token_of rest ≡ Err f → Faults 0 0 bytes f p
fault_there bytes [] ts place p f r s n l e g h = absurd (n refl)
fault_there bytes (b ∷ bs) ts place p f r s n l e g h =
    subst (λ (q : ℕ). Faults 0 0 bytes f q) (sym (g ∙ e)) (r.fault f (length bytes - length (b ∷ bs)) (here (length bytes - length (b ∷ bs)) b l s (fault_by b bs f h)))

pub fails : (bytes rest : List ℕ) (ts : List Token) (place : ℕ) (x : LexFault) → Reaches bytes rest ts → Stops is_blank rest → (length rest ≡ 0 → ⊥) → length ts < MAX_TOKENS → place ≡ length bytes - length rest → FailsAs place (token_of rest) x → FaultsAs bytes x
fails bytes rest ts place (faults.BadChar p) r s n l e h = fault_there bytes rest ts place p BadChar r s n l e h.0 h.1
fails bytes rest ts place (faults.OpenText p) r s n l e h = fault_there bytes rest ts place p OpenText r s n l e h.0 h.1
fails bytes rest ts place (faults.BigNumber p) r s n l e h = fault_there bytes rest ts place p BigNumber r s n l e h.0 h.1
fails bytes rest ts place (faults.Decimal p) r s n l e h = fault_there bytes rest ts place p Decimal r s n l e h.0 h.1
fails bytes rest ts place (faults.TooManyTokens p) r s n l e h = absurd h
fails bytes rest ts place faults.OutOfMemory r s n l e h = tt
