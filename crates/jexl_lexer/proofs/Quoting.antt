-- The inside of quotes by a character at a time.
use Rattle.std.proofs.Common.{◌≡◌, ℕ, zero, suc, ◌<◌, ◌≤◌, Bool, true, false, cond, List, [], ◌∷◌, ◌++◌, length, take, drop, Option, Some, None, refl, sym, ap, subst, ◌∙◌, arith, append_assoc, append-nil, get_or, length-drop}
use Rattle.std.specs.Prelude.{◌==◌, ◌||◌, nat_lt, not, option_map, encode_utf8}
use Rattle.std.specs.Option.{unwrap_or}
use Rattle.std.specs.Str.{IsCharBoundary}
use Rattle.memchr.specs.Find.{IsFirstByte, is_byte2}
use Rattle.std.proofs.lemmas.Bool.{eq-eqb, ltb-true, ltb-false, ne_eqb}
use Rattle.std.proofs.lemmas.Bool.Decides.{nat_tests}
use Rattle.std.proofs.lemmas.Str.{encode_ascii, inside_one, IsCharBoundary-end, IsCharBoundary-before_ascii}
use Rattle.jexl_lexer.proofs.Bytes.{char_long}
use Rattle.jexl_lexer.specs.Scanning.{is_plain, with_bytes, inside}
use Rattle.sequences.specs.Runs.{prepend, run}

-- each byte is at least 128
abbrev pub AllPastAscii : List ℕ → Type 0
AllPastAscii [] = Unit {0}
AllPastAscii (b ∷ bs) = (128 ≤ b) × AllPastAscii bs

all_big : (xs : List ℕ) → ((k : ℕ) → k < length xs → 128 ≤ get_or xs k 0) → AllPastAscii xs
all_big [] h = tt
all_big (b ∷ bs) h = (h 0 (omega arith), all_big bs (λ k l. h (suc k) (omega arith)))

not_small : (b : ℕ) (t : Bool) → nat_lt b 128 ≡ t → (b < 128 → ⊥) → 128 ≤ b
not_small b true e n = absurd (n (ltb-true b 128 e))
not_small b false e n = ltb-false b 128 e

char_byte : (c k : ℕ) → 128 ≤ c → k < length (encode_utf8 c) → get_or (encode_utf8 c) k 0 < 128 → ⊥
char_byte c k h l s = let e : c ≡ get_or (encode_utf8 c) k 0 = inside_one c [] (encode_utf8 c) k (sym (append-nil (encode_utf8 c))) l s in omega arith

char_big : (c : ℕ) → 128 ≤ c → AllPastAscii (encode_utf8 c)
char_big c h = all_big (encode_utf8 c) (λ k l. not_small (get_or (encode_utf8 c) k 0) (nat_lt (get_or (encode_utf8 c) k 0) 128) refl (char_byte c k h l))

abbrev Found : Type 0
Found = Option (List ℕ × List ℕ)

map_none : (o : Found) → option_map (with_bytes []) o ≡ o
map_none None = refl
map_none (Some x) = refl

map_one : (c : ℕ) (w : List ℕ) (o : Found) → option_map (prepend c) (option_map (with_bytes w) o) ≡ option_map (with_bytes (c ∷ w)) o
map_one c w None = refl
map_one c w (Some x) = refl

map_two : (v w : List ℕ) (o : Found) → option_map (with_bytes v) (option_map (with_bytes w) o) ≡ option_map (with_bytes (v ++ w)) o
map_two v w None = refl
map_two v w (Some x) = ap (λ (y : List ℕ). Some (y, x.1)) (sym (append_assoc v w x.0))

big_not : (b c : ℕ) → 128 ≤ b → c < 128 → b ≡ c → ⊥
big_not b c h l e = omega arith

high : (q : ℕ) → 92 ≡ q → q < 92 → ⊥
high q e l = omega arith

-- a byte that is neither
one_plain : (q c : ℕ) (cs : List ℕ) → (c ≡ q → ⊥) → (c ≡ 92 → ⊥) → inside q false (c ∷ cs) ≡ option_map (prepend c) (inside q false cs)
unfolding inside
one_plain q c cs n m =
    ap (λ (t : Bool). cond t (Some ([], cs)) (cond (c == 92) (inside q true cs) (option_map (prepend c) (inside q false cs)))) (ne_eqb c q n)
    ∙ ap (λ (t : Bool). cond t (inside q true cs) (option_map (prepend c) (inside q false cs))) (ne_eqb c 92 m)

big_plain : (q : ℕ) (xs rest : List ℕ) → q < 92 → AllPastAscii xs → inside q false (xs ++ rest) ≡ option_map (with_bytes xs) (inside q false rest)
big_plain q [] rest l h = sym (map_none (inside q false rest))
big_plain q (x ∷ xs) rest l h =
    one_plain q x (xs ++ rest) (λ e. big_not x q h.0 (omega arith) e) (λ e. big_not x 92 h.0 (omega arith) e)
    ∙ ap (option_map (prepend x)) (big_plain q xs rest l h.1)
    ∙ map_one x xs (inside q false rest)

one_escaped : (q c : ℕ) (cs : List ℕ) → inside q true (c ∷ cs) ≡ option_map (prepend c) (inside q false cs)
unfolding inside
one_escaped q c cs = refl

big_escaped : (q : ℕ) (xs rest : List ℕ) → 1 ≤ length xs → q < 92 → AllPastAscii xs → inside q true (xs ++ rest) ≡ option_map (with_bytes xs) (inside q false rest)
big_escaped q [] rest s l h = absurd (omega arith)
big_escaped q (x ∷ xs) rest s l h = one_escaped q x (xs ++ rest) ∙ ap (option_map (prepend x)) (big_plain q xs rest l h.1) ∙ map_one x xs (inside q false rest)

ascii_plain : (q c : ℕ) (rest : List ℕ) → c < 128 → (c ≡ q → ⊥) → (c ≡ 92 → ⊥) → inside q false (encode_utf8 c ++ rest) ≡ option_map (with_bytes (encode_utf8 c)) (inside q false rest)
ascii_plain q c rest l n m =
    subst (λ (w : List ℕ). inside q false (w ++ rest) ≡ option_map (with_bytes w) (inside q false rest)) (sym (encode_ascii c l)) (one_plain q c rest n m ∙ ap (λ (f : List ℕ × List ℕ → List ℕ × List ℕ). option_map f (inside q false rest)) refl)

ascii_escaped : (q c : ℕ) (rest : List ℕ) → c < 128 → inside q true (encode_utf8 c ++ rest) ≡ option_map (with_bytes (encode_utf8 c)) (inside q false rest)
ascii_escaped q c rest l =
    subst (λ (w : List ℕ). inside q true (w ++ rest) ≡ option_map (with_bytes w) (inside q false rest)) (sym (encode_ascii c l)) (one_escaped q c rest)

plain_by : (q c : ℕ) (rest : List ℕ) (t : Bool) → nat_lt c 128 ≡ t → q < 92 → (c ≡ q → ⊥) → (c ≡ 92 → ⊥) → inside q false (encode_utf8 c ++ rest) ≡ option_map (with_bytes (encode_utf8 c)) (inside q false rest)
plain_by q c rest true e l n m = ascii_plain q c rest (ltb-true c 128 e) n m
plain_by q c rest false e l n m = big_plain q (encode_utf8 c) rest l (char_big c (ltb-false c 128 e))

escaped_by : (q c : ℕ) (rest : List ℕ) (t : Bool) → nat_lt c 128 ≡ t → q < 92 → inside q true (encode_utf8 c ++ rest) ≡ option_map (with_bytes (encode_utf8 c)) (inside q false rest)
escaped_by q c rest true e l = ascii_escaped q c rest (ltb-true c 128 e)
escaped_by q c rest false e l = big_escaped q (encode_utf8 c) rest (char_long c) l (char_big c (ltb-false c 128 e))

-- the goals of a piece
pub inside_end : (q : ℕ) (bs : List ℕ) → bs ≡ [] → inside q false bs ≡ None
unfolding inside
inside_end q bs e = ap (inside q false) e

pub inside_close : (q c : ℕ) (bs rest : List ℕ) → q < 92 → bs ≡ encode_utf8 c ++ rest → c ≡ q → inside q false bs ≡ Some ([], rest)
unfolding inside
inside_close q c bs rest l e f =
    let s : encode_utf8 c ≡ c ∷ [] = encode_ascii c (omega arith) in
    ap (inside q false) (e ∙ ap (λ (w : List ℕ). w ++ rest) s)
    ∙ ap (λ (t : Bool). cond t (Some ([], rest)) (cond (c == 92) (inside q true rest) (option_map (prepend c) (inside q false rest)))) (eq-eqb c q f)

pub inside_plain : (q c : ℕ) (bs rest : List ℕ) → q < 92 → bs ≡ encode_utf8 c ++ rest → (c ≡ q → ⊥) → (c ≡ 92 → ⊥) → inside q false bs ≡ option_map (with_bytes (encode_utf8 c)) (inside q false rest)
inside_plain q c bs rest l e n m = ap (inside q false) e ∙ plain_by q c rest (nat_lt c 128) refl l n m

-- a backslash
backslash : (q c : ℕ) (bs rest : List ℕ) → q < 92 → bs ≡ encode_utf8 c ++ rest → c ≡ 92 → inside q false bs ≡ inside q true rest
unfolding inside
backslash q c bs rest l e f =
    let s : encode_utf8 c ≡ 92 ∷ [] = encode_ascii c (omega arith) ∙ ap (λ (b : ℕ). b ∷ []) f in
    ap (inside q false) (e ∙ ap (λ (w : List ℕ). w ++ rest) s)
    ∙ ap (λ (t : Bool). cond t (Some ([], rest)) (inside q true rest)) (ne_eqb 92 q (λ g. high q g l))

pub inside_escaped : (q c d : ℕ) (bs rest after : List ℕ) → q < 92 → bs ≡ encode_utf8 c ++ rest → c ≡ 92 → rest ≡ encode_utf8 d ++ after → inside q false bs ≡ option_map (with_bytes (encode_utf8 d)) (inside q false after)
inside_escaped q c d bs rest after l e f g = backslash q c bs rest l e f ∙ ap (inside q true) g ∙ escaped_by q d after (nat_lt d 128) refl l

pub inside_cut : (q c : ℕ) (bs rest : List ℕ) → q < 92 → bs ≡ encode_utf8 c ++ rest → c ≡ 92 → rest ≡ [] → inside q false bs ≡ None
unfolding inside
inside_cut q c bs rest l e f g = backslash q c bs rest l e f ∙ ap (inside q true) g

-- ---- what stands before the first quote or backslash

-- a run ends where the test fails first
pub run_up_to : (p : ℕ → Bool) (bs : List ℕ) (end : ℕ) → end ≤ length bs → ((k : ℕ) → k < end → p (get_or bs k 0) ≡ true) → (end < length bs → p (get_or bs end 0) ≡ false)
    → run p bs ≡ (take end bs, drop end bs)
unfolding run
run_up_to p [] zero le pass stop = refl
run_up_to p [] (suc n) le pass stop = absurd (omega arith)
run_up_to p (b ∷ bs) zero le pass stop = ap (λ (t : Bool). cond t (prepend b (run p bs)) ([], b ∷ bs)) (stop (omega arith))
run_up_to p (b ∷ bs) (suc n) le pass stop =
    ap (λ (t : Bool). cond t (prepend b (run p bs)) ([], b ∷ bs)) (pass 0 (omega arith))
    ∙ ap (prepend b) (run_up_to p bs n (omega arith) (λ k l. pass (suc k) (omega arith)) (λ l. stop (omega arith)))

not_true : (t : Bool) → (t ≡ true → ⊥) → not t ≡ true
not_true true n = absurd (n refl)
not_true false n = refl

-- up to what `memchr2` finds, or the end
pub plain_cut : (q : ℕ) (bs : List ℕ) (r : Option ℕ) (end : ℕ) → IsFirstByte (is_byte2 q 92) bs r → end ≡ unwrap_or r (length bs) → (take end bs, drop end bs) ≡ run (is_plain q) bs
plain_cut q bs None end h e =
    sym (run_up_to (is_plain q) bs end (omega arith) (λ k l. not_true (is_byte2 q 92 (get_or bs k 0)) (h k (omega arith) (omega arith))) (λ l. absurd (omega arith)))
plain_cut q bs (Some i) end h e =
    let bounded = h.0.high in
    sym (run_up_to (is_plain q) bs end (omega arith) (λ k l. not_true (is_byte2 q 92 (get_or bs k 0)) (h.0.before k (omega arith) (omega arith))) (λ l. ap (λ (n : ℕ). not (is_byte2 q 92 (get_or bs n 0))) e ∙ ap (λ (t : Bool). not t) h.1))

plain_low : (q b : ℕ) → q < 92 → is_byte2 q 92 b ≡ true → b < 128
plain_low q b l e = grind (arith, nat_tests)

-- a text may be cut there
pub plain_boundary : (q : ℕ) (bs : List ℕ) (r : Option ℕ) (end : ℕ) → q < 92 → IsFirstByte (is_byte2 q 92) bs r → end ≡ unwrap_or r (length bs) → IsCharBoundary bs end
plain_boundary q bs None end l h e = subst (λ (n : ℕ). IsCharBoundary bs n) (sym e) (IsCharBoundary-end bs)
plain_boundary q bs (Some i) end l h e = subst (λ (n : ℕ). IsCharBoundary bs n) (sym e) (IsCharBoundary-before_ascii bs i h.0.high (plain_low q (get_or bs i 0) l h.1))

pub cut_short : (bs : List ℕ) (end : ℕ) → length (drop end bs) ≤ length bs
cut_short bs end = omega (arith, length-drop end bs)

plain_not : (q c : ℕ) (s t : Bool) → (c == q) ≡ s → (c == 92) ≡ t → not (s || t) ≡ true → (s ≡ false) × (t ≡ false)
plain_not q c true t es et h = absurd cc
plain_not q c false true es et h = absurd cc
plain_not q c false false es et h = (refl, refl)

plain_turn : (q c : ℕ) (cs : List ℕ) (t : Bool) → is_plain q c ≡ t → inside q false cs ≡ option_map (with_bytes (run (is_plain q) cs).0) (inside q false (run (is_plain q) cs).1)
    → inside q false (c ∷ cs) ≡ option_map (with_bytes (cond t (prepend c (run (is_plain q) cs)) ([], c ∷ cs)).0) (inside q false (cond t (prepend c (run (is_plain q) cs)) ([], c ∷ cs)).1)
unfolding inside
plain_turn q c cs true e h =
    let n = plain_not q c (c == q) (c == 92) refl refl e in
    ap (λ (t : Bool). cond t (Some ([], cs)) (cond (c == 92) (inside q true cs) (option_map (prepend c) (inside q false cs)))) n.0
    ∙ ap (λ (t : Bool). cond t (inside q true cs) (option_map (prepend c) (inside q false cs))) n.1
    ∙ ap (option_map (prepend c)) h ∙ map_one c (run (is_plain q) cs).0 (inside q false (run (is_plain q) cs).1)
plain_turn q c cs false e h = sym (map_none (inside q false (c ∷ cs)))

-- what is plain stands in quotes as it is
plain_run : (q : ℕ) (bs : List ℕ) → inside q false bs ≡ option_map (with_bytes (run (is_plain q) bs).0) (inside q false (run (is_plain q) bs).1)
unfolding run
plain_run q [] = sym (map_none (inside q false []))
plain_run q (c ∷ cs) = plain_turn q c cs (is_plain q c) refl (plain_run q cs)

pub inside_after_plain : (q : ℕ) (bs plain rest : List ℕ) → (plain, rest) ≡ run (is_plain q) bs → inside q false bs ≡ option_map (with_bytes plain) (inside q false rest)
inside_after_plain q bs plain rest e =
    subst (λ (x : List ℕ × List ℕ). inside q false bs ≡ option_map (with_bytes x.0) (inside q false x.1)) (sym e) (plain_run q bs)

-- ---- the loop's goals

pub gather : (o p r : Found) (w v : List ℕ) → o ≡ option_map (with_bytes w) p → p ≡ option_map (with_bytes v) r → o ≡ option_map (with_bytes (w ++ v)) r
gather o p r w v e f = e ∙ ap (option_map (with_bytes w)) f ∙ map_two w v r

pub gather_end : (o p : Found) (w : List ℕ) → o ≡ option_map (with_bytes w) p → p ≡ None → None ≡ o
gather_end o p w e f = sym (e ∙ ap (option_map (with_bytes w)) f)

pub gather_close : (o p : Found) (w rest : List ℕ) → o ≡ option_map (with_bytes w) p → p ≡ Some ([], rest) → Some (w, rest) ≡ o
gather_close o p w rest e f = sym (e ∙ ap (option_map (with_bytes w)) f ∙ ap (λ (y : List ℕ). Some (y, rest)) (append-nil w))
