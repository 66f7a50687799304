-- Signs of one byte and of two bytes at the front.
use Rattle.std.proofs.Common.{◌≡◌, ℕ, ◌<◌, ◌≤◌, List, [], ◌∷◌, ◌++◌, length, Some, None, sym, ap, subst, ◌∙◌, arith, length-append}
use Rattle.jexl_lexer.specs.declared.token.Sign.{Sign}
use Rattle.jexl_lexer.specs.declared.token.Sign.TheVariants as signs
use Rattle.jexl_lexer.specs.Lexing.{sign_text, NoSign, IsLongest}
use Rattle.jexl_lexer.specs.Scanning.{NoAsciiFront, IsSignOf, IsDouble, NoDouble, first_sign, all_signs}
use Rattle.jexl_lexer.proofs.LongestSign.{at_most_two, at_least_one}
use Rattle.jexl_lexer.proofs.Uniqueness.{sign_found, sign_missing}

-- each byte is ASCII
abbrev IsLow : List ℕ → Type 0
IsLow [] = Unit {0}
IsLow (b ∷ bs) = (b < 128) × IsLow bs

low : (s : Sign) → IsLow (sign_text s)
low signs.And = (omega arith, (omega arith, tt))
low signs.Or = (omega arith, (omega arith, tt))
low signs.Equal = (omega arith, (omega arith, tt))
low signs.NotEqual = (omega arith, (omega arith, tt))
low signs.AtMost = (omega arith, (omega arith, tt))
low signs.AtLeast = (omega arith, (omega arith, tt))
low signs.FloorDiv = (omega arith, (omega arith, tt))
low signs.Less = (omega arith, tt)
low signs.Greater = (omega arith, tt)
low signs.Plus = (omega arith, tt)
low signs.Minus = (omega arith, tt)
low signs.Star = (omega arith, tt)
low signs.Percent = (omega arith, tt)
low signs.Caret = (omega arith, tt)
low signs.Bang = (omega arith, tt)
low signs.Question = (omega arith, tt)
low signs.Colon = (omega arith, tt)
low signs.Dot = (omega arith, tt)
low signs.Comma = (omega arith, tt)
low signs.LeftRound = (omega arith, tt)
low signs.RightRound = (omega arith, tt)
low signs.LeftSquare = (omega arith, tt)
low signs.RightSquare = (omega arith, tt)
low signs.LeftBrace = (omega arith, tt)
low signs.RightBrace = (omega arith, tt)
low signs.Bar = (omega arith, tt)

-- no sign is spelled by a byte that is none of these
pub no_single_byte : (b : ℕ)
    → (b ≡ 60 → ⊥)
    → (b ≡ 62 → ⊥)
    → (b ≡ 43 → ⊥)
    → (b ≡ 45 → ⊥)
    → (b ≡ 42 → ⊥)
    → (b ≡ 37 → ⊥)
    → (b ≡ 94 → ⊥)
    → (b ≡ 33 → ⊥)
    → (b ≡ 63 → ⊥)
    → (b ≡ 58 → ⊥)
    → (b ≡ 46 → ⊥)
    → (b ≡ 44 → ⊥)
    → (b ≡ 40 → ⊥)
    → (b ≡ 41 → ⊥)
    → (b ≡ 91 → ⊥)
    → (b ≡ 93 → ⊥)
    → (b ≡ 123 → ⊥)
    → (b ≡ 125 → ⊥)
    → (b ≡ 124 → ⊥)
    → IsSignOf (b ∷ []) None
no_single_byte b n0 n1 n2 n3 n4 n5 n6 n7 n8 n9 n10 n11 n12 n13 n14 n15 n16 n17 n18 signs.And e = absurd cc
no_single_byte b n0 n1 n2 n3 n4 n5 n6 n7 n8 n9 n10 n11 n12 n13 n14 n15 n16 n17 n18 signs.Or e = absurd cc
no_single_byte b n0 n1 n2 n3 n4 n5 n6 n7 n8 n9 n10 n11 n12 n13 n14 n15 n16 n17 n18 signs.Equal e = absurd cc
no_single_byte b n0 n1 n2 n3 n4 n5 n6 n7 n8 n9 n10 n11 n12 n13 n14 n15 n16 n17 n18 signs.NotEqual e = absurd cc
no_single_byte b n0 n1 n2 n3 n4 n5 n6 n7 n8 n9 n10 n11 n12 n13 n14 n15 n16 n17 n18 signs.AtMost e = absurd cc
no_single_byte b n0 n1 n2 n3 n4 n5 n6 n7 n8 n9 n10 n11 n12 n13 n14 n15 n16 n17 n18 signs.AtLeast e = absurd cc
no_single_byte b n0 n1 n2 n3 n4 n5 n6 n7 n8 n9 n10 n11 n12 n13 n14 n15 n16 n17 n18 signs.FloorDiv e = absurd cc
no_single_byte b n0 n1 n2 n3 n4 n5 n6 n7 n8 n9 n10 n11 n12 n13 n14 n15 n16 n17 n18 signs.Less e = n0 cc
no_single_byte b n0 n1 n2 n3 n4 n5 n6 n7 n8 n9 n10 n11 n12 n13 n14 n15 n16 n17 n18 signs.Greater e = n1 cc
no_single_byte b n0 n1 n2 n3 n4 n5 n6 n7 n8 n9 n10 n11 n12 n13 n14 n15 n16 n17 n18 signs.Plus e = n2 cc
no_single_byte b n0 n1 n2 n3 n4 n5 n6 n7 n8 n9 n10 n11 n12 n13 n14 n15 n16 n17 n18 signs.Minus e = n3 cc
no_single_byte b n0 n1 n2 n3 n4 n5 n6 n7 n8 n9 n10 n11 n12 n13 n14 n15 n16 n17 n18 signs.Star e = n4 cc
no_single_byte b n0 n1 n2 n3 n4 n5 n6 n7 n8 n9 n10 n11 n12 n13 n14 n15 n16 n17 n18 signs.Percent e = n5 cc
no_single_byte b n0 n1 n2 n3 n4 n5 n6 n7 n8 n9 n10 n11 n12 n13 n14 n15 n16 n17 n18 signs.Caret e = n6 cc
no_single_byte b n0 n1 n2 n3 n4 n5 n6 n7 n8 n9 n10 n11 n12 n13 n14 n15 n16 n17 n18 signs.Bang e = n7 cc
no_single_byte b n0 n1 n2 n3 n4 n5 n6 n7 n8 n9 n10 n11 n12 n13 n14 n15 n16 n17 n18 signs.Question e = n8 cc
no_single_byte b n0 n1 n2 n3 n4 n5 n6 n7 n8 n9 n10 n11 n12 n13 n14 n15 n16 n17 n18 signs.Colon e = n9 cc
no_single_byte b n0 n1 n2 n3 n4 n5 n6 n7 n8 n9 n10 n11 n12 n13 n14 n15 n16 n17 n18 signs.Dot e = n10 cc
no_single_byte b n0 n1 n2 n3 n4 n5 n6 n7 n8 n9 n10 n11 n12 n13 n14 n15 n16 n17 n18 signs.Comma e = n11 cc
no_single_byte b n0 n1 n2 n3 n4 n5 n6 n7 n8 n9 n10 n11 n12 n13 n14 n15 n16 n17 n18 signs.LeftRound e = n12 cc
no_single_byte b n0 n1 n2 n3 n4 n5 n6 n7 n8 n9 n10 n11 n12 n13 n14 n15 n16 n17 n18 signs.RightRound e = n13 cc
no_single_byte b n0 n1 n2 n3 n4 n5 n6 n7 n8 n9 n10 n11 n12 n13 n14 n15 n16 n17 n18 signs.LeftSquare e = n14 cc
no_single_byte b n0 n1 n2 n3 n4 n5 n6 n7 n8 n9 n10 n11 n12 n13 n14 n15 n16 n17 n18 signs.RightSquare e = n15 cc
no_single_byte b n0 n1 n2 n3 n4 n5 n6 n7 n8 n9 n10 n11 n12 n13 n14 n15 n16 n17 n18 signs.LeftBrace e = n16 cc
no_single_byte b n0 n1 n2 n3 n4 n5 n6 n7 n8 n9 n10 n11 n12 n13 n14 n15 n16 n17 n18 signs.RightBrace e = n17 cc
no_single_byte b n0 n1 n2 n3 n4 n5 n6 n7 n8 n9 n10 n11 n12 n13 n14 n15 n16 n17 n18 signs.Bar e = n18 cc

-- nor by two bytes that are none of these
pub no_double_bytes : (a b : ℕ)
    → (a ≡ 38 → b ≡ 38 → ⊥)
    → (a ≡ 124 → b ≡ 124 → ⊥)
    → (a ≡ 61 → b ≡ 61 → ⊥)
    → (a ≡ 33 → b ≡ 61 → ⊥)
    → (a ≡ 60 → b ≡ 61 → ⊥)
    → (a ≡ 62 → b ≡ 61 → ⊥)
    → (a ≡ 47 → b ≡ 47 → ⊥)
    → IsSignOf (a ∷ b ∷ []) None
no_double_bytes a b n0 n1 n2 n3 n4 n5 n6 signs.And e = let p : a ≡ 38 = cc in let q : b ≡ 38 = cc in n0 p q
no_double_bytes a b n0 n1 n2 n3 n4 n5 n6 signs.Or e = let p : a ≡ 124 = cc in let q : b ≡ 124 = cc in n1 p q
no_double_bytes a b n0 n1 n2 n3 n4 n5 n6 signs.Equal e = let p : a ≡ 61 = cc in let q : b ≡ 61 = cc in n2 p q
no_double_bytes a b n0 n1 n2 n3 n4 n5 n6 signs.NotEqual e = let p : a ≡ 33 = cc in let q : b ≡ 61 = cc in n3 p q
no_double_bytes a b n0 n1 n2 n3 n4 n5 n6 signs.AtMost e = let p : a ≡ 60 = cc in let q : b ≡ 61 = cc in n4 p q
no_double_bytes a b n0 n1 n2 n3 n4 n5 n6 signs.AtLeast e = let p : a ≡ 62 = cc in let q : b ≡ 61 = cc in n5 p q
no_double_bytes a b n0 n1 n2 n3 n4 n5 n6 signs.FloorDiv e = let p : a ≡ 47 = cc in let q : b ≡ 47 = cc in n6 p q
no_double_bytes a b n0 n1 n2 n3 n4 n5 n6 signs.Less e = absurd cc
no_double_bytes a b n0 n1 n2 n3 n4 n5 n6 signs.Greater e = absurd cc
no_double_bytes a b n0 n1 n2 n3 n4 n5 n6 signs.Plus e = absurd cc
no_double_bytes a b n0 n1 n2 n3 n4 n5 n6 signs.Minus e = absurd cc
no_double_bytes a b n0 n1 n2 n3 n4 n5 n6 signs.Star e = absurd cc
no_double_bytes a b n0 n1 n2 n3 n4 n5 n6 signs.Percent e = absurd cc
no_double_bytes a b n0 n1 n2 n3 n4 n5 n6 signs.Caret e = absurd cc
no_double_bytes a b n0 n1 n2 n3 n4 n5 n6 signs.Bang e = absurd cc
no_double_bytes a b n0 n1 n2 n3 n4 n5 n6 signs.Question e = absurd cc
no_double_bytes a b n0 n1 n2 n3 n4 n5 n6 signs.Colon e = absurd cc
no_double_bytes a b n0 n1 n2 n3 n4 n5 n6 signs.Dot e = absurd cc
no_double_bytes a b n0 n1 n2 n3 n4 n5 n6 signs.Comma e = absurd cc
no_double_bytes a b n0 n1 n2 n3 n4 n5 n6 signs.LeftRound e = absurd cc
no_double_bytes a b n0 n1 n2 n3 n4 n5 n6 signs.RightRound e = absurd cc
no_double_bytes a b n0 n1 n2 n3 n4 n5 n6 signs.LeftSquare e = absurd cc
no_double_bytes a b n0 n1 n2 n3 n4 n5 n6 signs.RightSquare e = absurd cc
no_double_bytes a b n0 n1 n2 n3 n4 n5 n6 signs.LeftBrace e = absurd cc
no_double_bytes a b n0 n1 n2 n3 n4 n5 n6 signs.RightBrace e = absurd cc
no_double_bytes a b n0 n1 n2 n3 n4 n5 n6 signs.Bar e = absurd cc

-- what stands in front where a sign of two bytes does
record TwoBytes (a : ℕ) (bs w : List ℕ) : Type 0 where
  second : ℕ
  more : List ℕ
  is_rest : bs ≡ second ∷ more
  is_word : w ≡ a ∷ second ∷ []

two_bytes : (a : ℕ) (bs w rest : List ℕ) → a ∷ bs ≡ w ++ rest → length w ≡ 2 → TwoBytes a bs w
two_bytes a bs [] rest e l = absurd (omega arith)
two_bytes a bs (b ∷ []) rest e l = absurd (omega arith)
two_bytes a bs (b ∷ c ∷ []) rest e l =
    let f : bs ≡ c ∷ rest = cc in
    let g : b ≡ a = cc in
    record { second = c; more = rest; is_rest = f; is_word = ap (λ (x : ℕ). x ∷ c ∷ []) g }
two_bytes a bs (b ∷ c ∷ d ∷ w) rest e l = absurd (omega arith)

low_second : (a b : ℕ) (w : List ℕ) → w ≡ a ∷ b ∷ [] → IsLow w → b < 128
low_second a b w e l = (subst (λ (v : List ℕ). IsLow v) e l).1.0

at_end_by : (a : ℕ) (bs w : List ℕ) → NoAsciiFront bs → IsLow w → TwoBytes a bs w → ⊥
at_end_by a [] w n l t = let f = t.is_rest in absurd cc
at_end_by a (b ∷ bs) w n l t =
    let f : b ≡ t.second = (let g = t.is_rest in cc) in
    let h = low_second a t.second w t.is_word l in
    omega (arith, f, h, n)

pub no_double_at_end : (a : ℕ) (bs : List ℕ) → NoAsciiFront bs → NoDouble (a ∷ bs)
no_double_at_end a bs n s rest d = at_end_by a bs (sign_text s) n (low s) (two_bytes a bs (sign_text s) rest d.0 d.1)

pub no_double_there : (a b : ℕ) (bs more : List ℕ) → bs ≡ b ∷ more → IsSignOf (a ∷ b ∷ []) None → NoDouble (a ∷ bs)
no_double_there a b bs more e n s rest d =
    let t = two_bytes a bs (sign_text s) rest d.0 d.1 in
    let f : b ≡ t.second = (let g = t.is_rest in cc) in
    n s (t.is_word ∙ ap (λ (x : ℕ). a ∷ x ∷ []) (sym f))

pub double_there : (a b : ℕ) (bs more : List ℕ) (s : Sign) → bs ≡ b ∷ more → sign_text s ≡ a ∷ b ∷ [] → IsDouble (a ∷ bs) s more
double_there a b bs more s e f = (ap (λ (w : List ℕ). a ∷ w) e ∙ sym (ap (λ (w : List ℕ). w ++ more) f), ap (λ (w : List ℕ). length w) f)

first_low : (b : ℕ) (bs w rest : List ℕ) → b ∷ bs ≡ w ++ rest → 1 ≤ length w → IsLow w → b < 128
first_low b bs [] rest e l h = absurd (omega arith)
first_low b bs (c ∷ w) rest e l h = let f : b ≡ c = cc in omega (arith, f, h.0)

pub high_no_sign : (bs : List ℕ) → NoAsciiFront bs → NoSign bs
high_no_sign [] h s rest e = let l : length {A = ℕ} [] ≡ length (sign_text s ++ rest) = ap (λ (w : List ℕ). length w) e in omega (arith, l, length-append (sign_text s) rest, at_least_one s)
high_no_sign (b ∷ bs) h s rest e = let l = first_low b bs (sign_text s) rest e (at_least_one s) (low s) in omega arith

pub sign_none : (bs : List ℕ) → NoAsciiFront bs → None ≡ first_sign all_signs bs
sign_none bs h = sym (sign_missing bs (high_no_sign bs h))

found_at : (bs rest : List ℕ) (s : Sign) → bs ≡ sign_text s ++ rest → IsLongest s bs → Some (s, rest) ≡ first_sign all_signs bs
found_at bs rest s e l = sym (ap (λ (w : List ℕ). first_sign all_signs w) e ∙ sign_found s rest (subst (λ (w : List ℕ). IsLongest s w) e l))

pub sign_double : (bs rest after : List ℕ) (a : ℕ) (s : Sign) → bs ≡ a ∷ rest → IsDouble (a ∷ rest) s after → Some (s, after) ≡ first_sign all_signs bs
sign_double bs rest after a s e d =
    let l = d.1 in
    found_at bs after s (e ∙ d.0) (λ r more f. let m = at_most_two r in omega arith)

single_longest : (bs rest : List ℕ) (a : ℕ) (s r : Sign) (more : List ℕ) → bs ≡ a ∷ rest → NoDouble (a ∷ rest) → bs ≡ sign_text r ++ more → length (sign_text r) ≤ 1
single_longest bs rest a s r more e n f =
    let m = at_most_two r in
    let no : length (sign_text r) ≡ 2 → ⊥ = λ t. n r more (sym e ∙ f, t) in
    omega arith

pub sign_single : (bs rest : List ℕ) (a : ℕ) (s : Sign) → bs ≡ a ∷ rest → NoDouble (a ∷ rest) → sign_text s ≡ a ∷ [] → Some (s, rest) ≡ first_sign all_signs bs
sign_single bs rest a s e n f =
    let one : length (sign_text s) ≡ 1 = ap (λ (w : List ℕ). length w) f in
    found_at bs rest s (e ∙ sym (ap (λ (w : List ℕ). w ++ rest) f)) (λ r more g. let m = single_longest bs rest a s r more e n g in omega arith)

one_byte : (a : ℕ) (bs w rest : List ℕ) → a ∷ bs ≡ w ++ rest → length w ≡ 1 → w ≡ a ∷ []
one_byte a bs [] rest e l = absurd (omega arith)
one_byte a bs (b ∷ []) rest e l = let f : b ≡ a = cc in ap (λ (x : ℕ). x ∷ []) f
one_byte a bs (b ∷ c ∷ w) rest e l = absurd (omega arith)

pub sign_neither : (bs rest : List ℕ) (a : ℕ) → bs ≡ a ∷ rest → NoDouble (a ∷ rest) → IsSignOf (a ∷ []) None → None ≡ first_sign all_signs bs
sign_neither bs rest a e n m =
    sym (sign_missing bs (λ r more f. let l = single_longest bs rest a r r more e n f in let k = at_least_one r in m r (one_byte a rest (sign_text r) more (sym e ∙ f) (omega arith))))
