-- What the tests on tokens tell.
use Rattle.std.proofs.Common.{◌≡◌, ℕ, ◌<◌, ◌≤◌, Bool, true, false, cond, List, [], ◌∷◌, Option, Some, None, get_or, refl, sym, ap, subst, ◌∙◌, arith}
use Rattle.std.proofs.lemmas.Bool.{eqb-true, leb-true, leb-false, lt-leb}
use Rattle.std.specs.Prelude.{nat_le, ℤ, pos, int_le}
use Rattle.jexl_lexer.specs.declared.token.Sign.{Sign}
use Rattle.jexl_lexer.specs.declared.token.Sign.TheVariants.{And, Or, Equal, NotEqual, AtMost, AtLeast, FloorDiv, Less, Greater, Plus, Minus, Star, Percent, Caret, Bang, Question, Colon, Dot, Comma, LeftRound, RightRound, LeftSquare, RightSquare, LeftBrace, RightBrace, Bar}
use Rattle.jexl_lexer.specs.declared.token.TokenKind.{TokenKind}
use Rattle.jexl_lexer.specs.declared.token.TokenKind.TheVariants as kinds
use Rattle.jexl_parser.specs.declared.node.BinarySign.{BinarySign}
use Rattle.jexl_parser.specs.declared.node.BinarySign.TheVariants as binary
use Rattle.jexl_parser.specs.declared.front.Word.{Word}
use Rattle.jexl_parser.specs.declared.front.Word.TheVariants as words
use Rattle.jexl_parser.specs.declared.front.Suffix.TheVariants as suffixes
use Rattle.jexl_parser.specs.declared.front.Opening.TheVariants as openings
use Rattle.jexl_parser.specs.Words.{word_of}
use Rattle.jexl_parser.specs.Tokens.{place, same_sign, is_sign}
use Rattle.jexl_parser.specs.Grammar.{operator_of, level_of, key_of}
use Rattle.jexl_parser.specs.Reading.{◌>>=◌, after, name_at, plain_at, if_plain, number_at, with_rest, key_at, high_enough, operator_at, suffix_of, suffix_of_sign, opening_of}

-- the value of a step that gave one
pub bind_ok : {A B : Type 0} (r : Option A) (f : A → Option B) (y : B) → (r >>= f) ≡ Some y → (x : A) × (r ≡ Some x) × (f x ≡ Some y)
bind_ok None f y e = absurd cc
bind_ok (Some x) f y e = (x, refl, e)

abbrev some : {A : Type 0} → A → Option A
some x = Some x

pub some_is : {A : Type 0} (x y : A) → some x ≡ some y → x ≡ y
some_is x y e = cc

abbrev all_signs : List Sign
all_signs = And ∷ Or ∷ Equal ∷ NotEqual ∷ AtMost ∷ AtLeast ∷ FloorDiv ∷ Less ∷ Greater ∷ Plus ∷ Minus ∷ Star ∷ Percent ∷ Caret ∷ Bang ∷ Question ∷ Colon ∷ Dot ∷ Comma ∷ LeftRound ∷ RightRound ∷ LeftSquare ∷ RightSquare ∷ LeftBrace ∷ RightBrace ∷ Bar ∷ []

at_place : (s : Sign) → get_or all_signs (place s) And ≡ s
at_place And = refl
at_place Or = refl
at_place Equal = refl
at_place NotEqual = refl
at_place AtMost = refl
at_place AtLeast = refl
at_place FloorDiv = refl
at_place Less = refl
at_place Greater = refl
at_place Plus = refl
at_place Minus = refl
at_place Star = refl
at_place Percent = refl
at_place Caret = refl
at_place Bang = refl
at_place Question = refl
at_place Colon = refl
at_place Dot = refl
at_place Comma = refl
at_place LeftRound = refl
at_place RightRound = refl
at_place LeftSquare = refl
at_place RightSquare = refl
at_place LeftBrace = refl
at_place RightBrace = refl
at_place Bar = refl

-- two signs that the test takes for one are one
pub same_sign_is : (r s : Sign) → same_sign r s ≡ true → r ≡ s
same_sign_is r s e = sym (at_place r) ∙ ap (λ (n : ℕ). get_or all_signs n And) (eqb-true (place r) (place s) e) ∙ at_place s

pub is_sign_is : (s : Sign) (k : TokenKind) → is_sign s k ≡ true → k ≡ kinds.Sign s
is_sign_is s (kinds.Number n) e = absurd cc
is_sign_is s (kinds.Quoted q) e = absurd cc
is_sign_is s (kinds.Name n) e = absurd cc
is_sign_is s (kinds.Sign r) e = ap (λ (q : Sign). kinds.Sign q) (same_sign_is r s e)

after_by : (s : Sign) (k : TokenKind) (ks us : List TokenKind) (b : Bool) → is_sign s k ≡ b → cond b (some ks) None ≡ Some us → k ∷ ks ≡ kinds.Sign s ∷ us
after_by s k ks us true t e = let h = is_sign_is s k t in let g = some_is ks us e in cc
after_by s k ks us false t e = absurd cc

-- what stands before the tokens after a sign
pub after_is : (s : Sign) (ts us : List TokenKind) → after s ts ≡ Some us → ts ≡ kinds.Sign s ∷ us
after_is s [] us e = absurd cc
after_is s (k ∷ ks) us e = after_by s k ks us (is_sign s k) refl e

pub name_is : (ts : List TokenKind) (x : List ℕ × List TokenKind) → name_at ts ≡ Some x → ts ≡ kinds.Name x.0 ∷ x.1
name_is [] x e = absurd cc
name_is (kinds.Number n ∷ ks) x e = absurd cc
name_is (kinds.Quoted q ∷ ks) x e = absurd cc
name_is (kinds.Name n ∷ ks) x e = ap (λ (y : List ℕ × List TokenKind). kinds.Name y.0 ∷ y.1) (some_is (n, ks) x e)
name_is (kinds.Sign s ∷ ks) x e = absurd cc

-- a number at the front
pub record IsNumber (ts : List TokenKind) (n : ℤ) (us : List TokenKind) : Type 0 where
  pub front : ts ≡ kinds.Number n ∷ us
  pub natural : int_le (pos 0) n ≡ true

number_by : (n : ℤ) (ks : List TokenKind) (x : ℤ × List TokenKind) (b : Bool) → int_le (pos 0) n ≡ b → cond b (some {A = ℤ × List TokenKind} (n, ks)) None ≡ Some x → IsNumber (kinds.Number n ∷ ks) x.0 x.1
number_by n ks x true t e = subst (λ (y : ℤ × List TokenKind). IsNumber (kinds.Number n ∷ ks) y.0 y.1) (some_is (n, ks) x e) (record { front = refl; natural = t })
number_by n ks x false t e = absurd cc

pub number_is : (ts : List TokenKind) (x : ℤ × List TokenKind) → number_at ts ≡ Some x → IsNumber ts x.0 x.1
number_is [] x e = absurd cc
number_is (kinds.Number n ∷ ks) x e = number_by n ks x (int_le (pos 0) n) refl e
number_is (kinds.Quoted q ∷ ks) x e = absurd cc
number_is (kinds.Name n ∷ ks) x e = absurd cc
number_is (kinds.Sign s ∷ ks) x e = absurd cc

-- a plain name at the front
pub record IsPlain (ts : List TokenKind) (n : List ℕ) (us : List TokenKind) : Type 0 where
  pub front : ts ≡ kinds.Name n ∷ us
  pub plain : word_of n ≡ words.Plain

plain_by : (n : List ℕ) (ks : List TokenKind) (x : List ℕ × List TokenKind) (w : Word) → word_of n ≡ w → if_plain n ks w ≡ Some x → IsPlain (kinds.Name n ∷ ks) x.0 x.1
plain_by n ks x words.Plain t e = subst (λ (y : List ℕ × List TokenKind). IsPlain (kinds.Name n ∷ ks) y.0 y.1) (some_is (n, ks) x e) (record { front = refl; plain = t })
plain_by n ks x _ t e = absurd cc

pub plain_is : (ts : List TokenKind) (x : List ℕ × List TokenKind) → plain_at ts ≡ Some x → IsPlain ts x.0 x.1
plain_is [] x e = absurd cc
plain_is (kinds.Number n ∷ ks) x e = absurd cc
plain_is (kinds.Quoted q ∷ ks) x e = absurd cc
plain_is (kinds.Name n ∷ ks) x e = plain_by n ks x (word_of n) refl e
plain_is (kinds.Sign s ∷ ks) x e = absurd cc

-- a key at the front
pub record IsKey (ts : List TokenKind) (n : List ℕ) (us : List TokenKind) : Type 0 where
  pub token : TokenKind
  pub front : ts ≡ token ∷ us
  pub means : key_of token ≡ Some n

key_by : (k : TokenKind) (ks : List TokenKind) (x : List ℕ × List TokenKind) (o : Option (List ℕ)) → key_of k ≡ o → with_rest o ks ≡ Some x → IsKey (k ∷ ks) x.0 x.1
key_by k ks x None t e = absurd cc
key_by k ks x (Some n) t e = subst (λ (y : List ℕ × List TokenKind). IsKey (k ∷ ks) y.0 y.1) (some_is (n, ks) x e) (record { token = k; front = refl; means = t })

pub key_is : (ts : List TokenKind) (x : List ℕ × List TokenKind) → key_at ts ≡ Some x → IsKey ts x.0 x.1
key_is [] x e = absurd cc
key_is (k ∷ ks) x e = key_by k ks x (key_of k) refl e

-- an operator at the front
pub record IsOperator (n : ℕ) (ts : List TokenKind) (o : BinarySign) (us : List TokenKind) : Type 0 where
  pub token : TokenKind
  pub front : ts ≡ token ∷ us
  pub means : operator_of token ≡ Some o
  pub high : n ≤ level_of o

operator_by : (n : ℕ) (k : TokenKind) (ks : List TokenKind) (x : BinarySign × List TokenKind) (o : Option BinarySign) → operator_of k ≡ o → high_enough n o ks ≡ Some x → IsOperator n (k ∷ ks) x.0 x.1
operator_by n k ks x None t e = absurd cc
operator_by n k ks x (Some o) t e = high_by (nat_le n (level_of o)) refl e
  where
    high_by : (b : Bool) → nat_le n (level_of o) ≡ b → cond b (some (o, ks)) None ≡ Some x → IsOperator n (k ∷ ks) x.0 x.1
    high_by true h e = subst (λ (y : BinarySign × List TokenKind). IsOperator n (k ∷ ks) y.0 y.1) (some_is (o, ks) x e) (record { token = k; front = refl; means = t; high = leb-true n (level_of o) h })
    high_by false h e = absurd cc

pub operator_is : (n : ℕ) (ts : List TokenKind) (x : BinarySign × List TokenKind) → operator_at n ts ≡ Some x → IsOperator n ts x.0 x.1
operator_is n [] x e = absurd cc
operator_is n (k ∷ ks) x e = operator_by n k ks x (operator_of k) refl e

-- an operator of a level from n on, where none of a level from j on stands, is of a level below j
below_by : (j : ℕ) (o : BinarySign) (us : List TokenKind) (b : Bool) → nat_le j (level_of o) ≡ b → cond b (some {A = BinarySign × List TokenKind} (o, us)) None ≡ None → level_of o < j
below_by j o us true h e = absurd cc
below_by j o us false h e = leb-false j (level_of o) h

pub operator_below : (j : ℕ) (k : TokenKind) (us : List TokenKind) (o : BinarySign) → operator_of k ≡ Some o → operator_at j (k ∷ us) ≡ None → level_of o < j
operator_below j k us o t e =
    let g : high_enough j (Some o) us ≡ None = subst (λ (p : Option BinarySign). high_enough j p us ≡ None) t e in
    below_by j o us (nat_le j (level_of o)) refl g

-- the sign that a suffix or an opening comes from
member_suffix_sign : (s : Sign) → suffix_of_sign s ≡ suffixes.Member → s ≡ Dot
member_suffix_sign Dot e = refl
member_suffix_sign _ e = absurd cc

bracket_suffix_sign : (s : Sign) → suffix_of_sign s ≡ suffixes.Bracket → s ≡ LeftSquare
bracket_suffix_sign LeftSquare e = refl
bracket_suffix_sign _ e = absurd cc

transform_suffix_sign : (s : Sign) → suffix_of_sign s ≡ suffixes.Transform → s ≡ Bar
transform_suffix_sign Bar e = refl
transform_suffix_sign _ e = absurd cc

pub member_suffix_is : (k : TokenKind) → suffix_of k ≡ suffixes.Member → k ≡ kinds.Sign Dot
member_suffix_is (kinds.Number n) e = absurd cc
member_suffix_is (kinds.Quoted q) e = absurd cc
member_suffix_is (kinds.Name n) e = absurd cc
member_suffix_is (kinds.Sign s) e = ap (λ (q : Sign). kinds.Sign q) (member_suffix_sign s e)

pub bracket_suffix_is : (k : TokenKind) → suffix_of k ≡ suffixes.Bracket → k ≡ kinds.Sign LeftSquare
bracket_suffix_is (kinds.Number n) e = absurd cc
bracket_suffix_is (kinds.Quoted q) e = absurd cc
bracket_suffix_is (kinds.Name n) e = absurd cc
bracket_suffix_is (kinds.Sign s) e = ap (λ (q : Sign). kinds.Sign q) (bracket_suffix_sign s e)

pub transform_suffix_is : (k : TokenKind) → suffix_of k ≡ suffixes.Transform → k ≡ kinds.Sign Bar
transform_suffix_is (kinds.Number n) e = absurd cc
transform_suffix_is (kinds.Quoted q) e = absurd cc
transform_suffix_is (kinds.Name n) e = absurd cc
transform_suffix_is (kinds.Sign s) e = ap (λ (q : Sign). kinds.Sign q) (transform_suffix_sign s e)

pub minus_opening_is : (s : Sign) → opening_of s ≡ openings.Minus → s ≡ Minus
minus_opening_is Minus e = refl
minus_opening_is _ e = absurd cc

pub dot_opening_is : (s : Sign) → opening_of s ≡ openings.Dot → s ≡ Dot
dot_opening_is Dot e = refl
dot_opening_is _ e = absurd cc

pub round_opening_is : (s : Sign) → opening_of s ≡ openings.Round → s ≡ LeftRound
round_opening_is LeftRound e = refl
round_opening_is _ e = absurd cc

pub square_opening_is : (s : Sign) → opening_of s ≡ openings.Square → s ≡ LeftSquare
square_opening_is LeftSquare e = refl
square_opening_is _ e = absurd cc

pub brace_opening_is : (s : Sign) → opening_of s ≡ openings.Brace → s ≡ LeftBrace
brace_opening_is LeftBrace e = refl
brace_opening_is _ e = absurd cc

-- no operator is of a level above 5
pub level_at_most : (o : BinarySign) → level_of o < 6
level_at_most binary.And = omega arith
level_at_most binary.Or = omega arith
level_at_most binary.Equal = omega arith
level_at_most binary.NotEqual = omega arith
level_at_most binary.Less = omega arith
level_at_most binary.AtMost = omega arith
level_at_most binary.Greater = omega arith
level_at_most binary.AtLeast = omega arith
level_at_most binary.Inside = omega arith
level_at_most binary.Plus = omega arith
level_at_most binary.Minus = omega arith
level_at_most binary.Times = omega arith
level_at_most binary.FloorDiv = omega arith
level_at_most binary.Percent = omega arith
level_at_most binary.Power = omega arith

none_by : (k : TokenKind) (ks : List TokenKind) (o : Option BinarySign) (n : ℕ) → 6 ≤ n → high_enough n o ks ≡ None
none_by k ks None n le = refl
none_by k ks (Some o) n le = rw (lt-leb n (level_of o) (let l = level_at_most o in omega arith)) refl

pub no_operator_above : (n : ℕ) (ts : List TokenKind) → 6 ≤ n → operator_at n ts ≡ None
no_operator_above n [] le = refl
no_operator_above n (k ∷ ks) le = none_by k ks (operator_of k) n le
