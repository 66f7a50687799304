-- What is spelled is read, whatever follows that doesn't go on with it.
use Rattle.std.specs.Prelude.{ℤ, neg_ℤ}
use Rattle.std.proofs.Common.{◌≡◌, ℕ, suc, ◌<◌, ◌≤◌, Bool, true, false, cond, List, [], ◌∷◌, ◌++◌, Option, Some, None, refl, sym, ap, subst, ◌∙◌, append_assoc, arith}
use Rattle.std.proofs.lemmas.Bool.{lt-leb, le-leb}
use Rattle.std.specs.Prelude.{IfSome}
use Rattle.jexl_lexer.specs.declared.token.Sign.{Sign}
use Rattle.jexl_lexer.specs.declared.token.Sign.TheVariants as signs
use Rattle.jexl_lexer.specs.declared.token.TokenKind.{TokenKind}
use Rattle.jexl_lexer.specs.declared.token.TokenKind.TheVariants as kinds
use Rattle.jexl_parser.specs.declared.node.BinarySign.{BinarySign}
use Rattle.jexl_parser.specs.Tokens.{same_sign, is_sign}
use Rattle.jexl_parser.specs.declared.front.Word.{Word}
use Rattle.jexl_parser.specs.declared.front.Word.TheVariants as words
use Rattle.jexl_parser.specs.declared.front.Suffix.{Suffix}
use Rattle.jexl_parser.specs.declared.front.Suffix.TheVariants as suffixes
use Rattle.jexl_parser.specs.Words.{word_of}
use Rattle.jexl_parser.specs.Tree.{Whole, Tree, Literal, Items, Members, none, no_pair}
use Rattle.jexl_parser.specs.Seen.{Seen, cap, seen_not, seen_bracket, seen_binary, seen_or_else, seen_choose, seen_args, seen_item, seen_pair}
use Rattle.jexl_parser.proofs.Seen.{cap_not, cap_member, cap_binary, cap_or_else, cap_choose, cap_index, cap_filter, cap_args, cap_item, cap_pair}
use Rattle.jexl_parser.specs.Grammar.{operator_of, operator_of_sign, operator_of_word, level_of, key_of, Symbol, Expr, Level, Unary, Postfix, Primary, Args, Exprs, MemberList, PairList, sign, Spells, plain, choose, or_else, operation, tighter, tightest, negation, positive, primary, member, index, filter, transform, transform_with, number, negative, quoted, truth, falsity, null, name, relative, group, items, object, no_args, args, one_expr, next_expr, no_members, members, one_pair, next_pair}
use Rattle.jexl_parser.specs.Reading.{◌>>=◌, Read, AnExpr, Climb, Loop, AUnary, APostfix, Suffixes, APrimary, UpTo, SomeExprs, MoreExprs, ToBrace, APair, MorePairs, Reader, after, if_plain, with_rest, high_enough, operator_at, suffix_of, suffix_of_sign, colon_part, or_part, choice_part, loop_part, unary_part, square_part, args_part, transform_part, suffix_part, closed_part, word_part, up_to_part, more_exprs_part, to_brace_part, pair_part, read_of}
use Rattle.jexl_parser.proofs.Tools.{is_sign_is, level_at_most}
use Rattle.jexl_parser.proofs.Agree.{read_step}

-- how tight a token holds what stands before it: 7 after a postfix, the level and 1 for an operator, 1 for ?, and else 0
abbrev pub tightness_of_sign : Sign → ℕ
tightness_of_sign signs.Question = 1
tightness_of_sign signs.And = 2
tightness_of_sign signs.Or = 2
tightness_of_sign signs.Equal = 3
tightness_of_sign signs.NotEqual = 3
tightness_of_sign signs.AtMost = 3
tightness_of_sign signs.AtLeast = 3
tightness_of_sign signs.Less = 3
tightness_of_sign signs.Greater = 3
tightness_of_sign signs.Plus = 4
tightness_of_sign signs.Minus = 4
tightness_of_sign signs.Star = 5
tightness_of_sign signs.FloorDiv = 5
tightness_of_sign signs.Percent = 6
tightness_of_sign signs.Caret = 6
tightness_of_sign signs.Dot = 7
tightness_of_sign signs.LeftSquare = 7
tightness_of_sign signs.Bar = 7
tightness_of_sign signs.LeftRound = 7
tightness_of_sign _ = 0

abbrev pub tightness_of_word : Word → ℕ
tightness_of_word words.In = 3
tightness_of_word _ = 0

abbrev pub tightness : TokenKind → ℕ
tightness (kinds.Number n) = 0
tightness (kinds.Quoted q) = 0
tightness (kinds.Name n) = tightness_of_word (word_of n)
tightness (kinds.Sign s) = tightness_of_sign s

-- the first token, if any, holds no tighter than n
abbrev pub Ends : ℕ → List TokenKind → Type 0
Ends n [] = Unit {0}
Ends n (k ∷ ks) = tightness k ≤ n

Ends-more : (m n : ℕ) (ts : List TokenKind) → m ≤ n → Ends m ts → Ends n ts
Ends-more m n [] le h = tt
Ends-more m n (k ∷ ks) le h = omega arith

not_after_by : (n : ℕ) (s : Sign) (k : TokenKind) (ks : List TokenKind) → n < tightness_of_sign s → tightness k ≤ n → (b : Bool) → is_sign s k ≡ b → cond b (Some ks) None ≡ None
not_after_by n s k ks lt le true e = let q : tightness k ≡ tightness_of_sign s = ap tightness (is_sign_is s k e) in absurd (omega arith)
not_after_by n s k ks lt le false e = refl

-- a sign that holds tighter isn't there
not_after : (n : ℕ) (s : Sign) (ts : List TokenKind) → n < tightness_of_sign s → Ends n ts → after s ts ≡ None
not_after n s [] lt h = refl
not_after n s (k ∷ ks) lt h = not_after_by n s k ks lt h (is_sign s k) refl

tightness_sign : (s : Sign) → IfSome (operator_of_sign s) (λ o. tightness_of_sign s ≡ suc (level_of o))
tightness_sign signs.And = refl
tightness_sign signs.Or = refl
tightness_sign signs.Equal = refl
tightness_sign signs.NotEqual = refl
tightness_sign signs.AtMost = refl
tightness_sign signs.AtLeast = refl
tightness_sign signs.Less = refl
tightness_sign signs.Greater = refl
tightness_sign signs.Plus = refl
tightness_sign signs.Minus = refl
tightness_sign signs.Star = refl
tightness_sign signs.FloorDiv = refl
tightness_sign signs.Percent = refl
tightness_sign signs.Caret = refl
tightness_sign _ = tt

tightness_word : (w : Word) → IfSome (operator_of_word w) (λ o. tightness_of_word w ≡ suc (level_of o))
tightness_word words.In = refl
tightness_word _ = tt

tightness_operator : (k : TokenKind) → IfSome (operator_of k) (λ o. tightness k ≡ suc (level_of o))
tightness_operator (kinds.Number n) = tt
tightness_operator (kinds.Quoted q) = tt
tightness_operator (kinds.Name n) = tightness_word (word_of n)
tightness_operator (kinds.Sign s) = tightness_sign s

pub operator_tightness : (k : TokenKind) (o : BinarySign) → operator_of k ≡ Some o → tightness k ≡ suc (level_of o)
operator_tightness k o e = subst (λ (p : Option BinarySign). IfSome p (λ q. tightness k ≡ suc (level_of q))) e (tightness_operator k)

not_operator_by : (n m : ℕ) (k : TokenKind) (ks : List TokenKind) → n ≤ m → tightness k ≤ n → (o : Option BinarySign) → operator_of k ≡ o → high_enough m o ks ≡ None
not_operator_by n m k ks le h None e = refl
not_operator_by n m k ks le h (Some o) e = let g = operator_tightness k o e in rw (lt-leb m (level_of o) (omega arith)) refl

not_operator : (n m : ℕ) (ts : List TokenKind) → n ≤ m → Ends n ts → operator_at m ts ≡ None
not_operator n m [] le h = refl
not_operator n m (k ∷ ks) le h = not_operator_by n m k ks le h (operator_of k) refl

no_suffix_sign : (s : Sign) → tightness_of_sign s ≤ 6 → suffix_of_sign s ≡ suffixes.None
no_suffix_sign signs.Dot h = absurd (omega arith)
no_suffix_sign signs.LeftSquare h = absurd (omega arith)
no_suffix_sign signs.Bar h = absurd (omega arith)
no_suffix_sign _ h = refl

no_suffix : (k : TokenKind) → tightness k ≤ 6 → suffix_of k ≡ suffixes.None
no_suffix (kinds.Number n) h = refl
no_suffix (kinds.Quoted q) h = refl
no_suffix (kinds.Name n) h = refl
no_suffix (kinds.Sign s) h = no_suffix_sign s h

-- the sign begins no expression, but for `!`
pub record CannotStart (s : Sign) : Type 0 where
  pub minus : same_sign signs.Minus s ≡ false
  pub dot : same_sign signs.Dot s ≡ false
  pub round : same_sign signs.LeftRound s ≡ false
  pub square : same_sign signs.LeftSquare s ≡ false
  pub brace : same_sign signs.LeftBrace s ≡ false

abbrev BangToo : Sign → Symbol → Type 0
BangToo s Postfix = Unit {0}
BangToo s Primary = Unit {0}
BangToo s Expr = same_sign signs.Bang s ≡ false
BangToo s (Level n) = same_sign signs.Bang s ≡ false
BangToo s Unary = same_sign signs.Bang s ≡ false
BangToo s Exprs = same_sign signs.Bang s ≡ false
BangToo s PairList = Unit {0}
BangToo s Args = ⊥
BangToo s MemberList = ⊥

skip : (s r : Sign) (ks : List TokenKind) → same_sign r s ≡ false → after s (kinds.Sign r ∷ ks) ≡ None
skip s r ks e = ap (λ (b : Bool). cond b (Some ks) None) e

-- a key is no sign
not_key : (s : Sign) (k : TokenKind) (n : List ℕ) (ks : List TokenKind) → key_of k ≡ Some n → after s (k ∷ ks) ≡ None
not_key s (kinds.Number m) n ks e = refl
not_key s (kinds.Quoted q) n ks e = refl
not_key s (kinds.Name m) n ks e = refl
not_key s (kinds.Sign r) n ks e = absurd cc

-- what is spelled begins with another sign
not_start : {y : Symbol} {ts : List TokenKind} {t : Tree} → Spells y ts t → (s : Sign) → CannotStart s → BangToo s y → (rest : List TokenKind) → after s (ts ++ rest) ≡ None
not_start (plain d) s c b rest = not_start d s c b rest
not_start (choose {us = us} {vs = vs} {ws = ws} d e f) s c b rest =
    let inner = sign signs.Question ∷ (vs ++ (sign signs.Colon ∷ ws)) in
    subst (λ (w : List TokenKind). after s w ≡ None) (sym (append_assoc us inner rest)) (not_start d s c b (inner ++ rest))
not_start (or_else {us = us} {ws = ws} d e) s c b rest =
    let inner = sign signs.Question ∷ sign signs.Colon ∷ ws in
    subst (λ (w : List TokenKind). after s w ≡ None) (sym (append_assoc us inner rest)) (not_start d s c b (inner ++ rest))
not_start (operation {us = us} {vs = vs} k o means d e) s c b rest =
    let inner = k ∷ vs in
    subst (λ (w : List TokenKind). after s w ≡ None) (sym (append_assoc us inner rest)) (not_start d s c b (inner ++ rest))
not_start (tighter d) s c b rest = not_start d s c b rest
not_start (tightest d) s c b rest = not_start d s c b rest
not_start (negation {ts = ts} d) s c b rest = skip s signs.Bang (ts ++ rest) b
not_start (positive d) s c b rest = not_start d s c tt rest
not_start (primary d) s c b rest = not_start d s c tt rest
not_start (member {ts = ts} n d) s c b rest =
    let inner = sign signs.Dot ∷ kinds.Name n ∷ [] in
    subst (λ (w : List TokenKind). after s w ≡ None) (sym (append_assoc ts inner rest)) (not_start d s c b (inner ++ rest))
not_start (index {us = us} {vs = vs} d e g) s c b rest =
    let inner = sign signs.LeftSquare ∷ (vs ++ (sign signs.RightSquare ∷ [])) in
    subst (λ (w : List TokenKind). after s w ≡ None) (sym (append_assoc us inner rest)) (not_start d s c b (inner ++ rest))
not_start (filter {us = us} {vs = vs} d e g) s c b rest =
    let inner = sign signs.LeftSquare ∷ (vs ++ (sign signs.RightSquare ∷ [])) in
    subst (λ (w : List TokenKind). after s w ≡ None) (sym (append_assoc us inner rest)) (not_start d s c b (inner ++ rest))
not_start (transform {ts = ts} n p d) s c b rest =
    let inner = sign signs.Bar ∷ kinds.Name n ∷ [] in
    subst (λ (w : List TokenKind). after s w ≡ None) (sym (append_assoc ts inner rest)) (not_start d s c b (inner ++ rest))
not_start (transform_with {us = us} {vs = vs} n p d e) s c b rest =
    let inner = sign signs.Bar ∷ kinds.Name n ∷ sign signs.LeftRound ∷ (vs ++ (sign signs.RightRound ∷ [])) in
    subst (λ (w : List TokenKind). after s w ≡ None) (sym (append_assoc us inner rest)) (not_start d s c b (inner ++ rest))
not_start (number n) s c b rest = refl
not_start (negative n p) s c b rest = skip s signs.Minus (kinds.Number n ∷ rest) c.minus
not_start (quoted q) s c b rest = refl
not_start (truth n p) s c b rest = refl
not_start (falsity n p) s c b rest = refl
not_start (null n p) s c b rest = refl
not_start (name n p) s c b rest = refl
not_start (relative n) s c b rest = skip s signs.Dot (kinds.Name n ∷ rest) c.dot
not_start (group {ts = ts} d) s c b rest = skip s signs.LeftRound ((ts ++ (sign signs.RightRound ∷ [])) ++ rest) c.round
not_start (items {ts = ts} d) s c b rest = skip s signs.LeftSquare ((ts ++ (sign signs.RightSquare ∷ [])) ++ rest) c.square
not_start (object {ts = ts} d) s c b rest = skip s signs.LeftBrace ((ts ++ (sign signs.RightBrace ∷ [])) ++ rest) c.brace
not_start no_args s c b rest = absurd b
not_start (args d) s c b rest = absurd b
not_start (one_expr d) s c b rest = not_start d s c b rest
not_start (next_expr {us = us} {vs = vs} d e) s c b rest =
    let inner = sign signs.Comma ∷ vs in
    subst (λ (w : List TokenKind). after s w ≡ None) (sym (append_assoc us inner rest)) (not_start d s c b (inner ++ rest))
not_start no_members s c b rest = absurd b
not_start (members d) s c b rest = absurd b
not_start (one_pair {vs = vs} k n m d) s c b rest = not_key s k n (sign signs.Colon ∷ (vs ++ rest)) m
not_start (next_pair {us = us} {vs = vs} k n m d e) s c b rest =
    let inner = sign signs.Comma ∷ k ∷ sign signs.Colon ∷ vs in
    subst (λ (w : List TokenKind). after s w ≡ None) (sym (append_assoc us inner rest)) (not_start d s c b (inner ++ rest))

colon_starts_nothing : CannotStart signs.Colon
colon_starts_nothing = record { minus = refl; dot = refl; round = refl; square = refl; brace = refl }

bang_starts_no_postfix : CannotStart signs.Bang
bang_starts_no_postfix = record { minus = refl; dot = refl; round = refl; square = refl; brace = refl }

abbrev some_number : ℤ → List TokenKind → Option (ℤ × List TokenKind)
some_number n ks = Some (n, ks)

abbrev some_kept : Seen → List TokenKind → Read
some_kept x ks = Some (x, ks)

bind_by : {A B : Type 0} (r : Option A) (x : A) (f : A → Option B) → r ≡ Some x → (r >>= f) ≡ f x
bind_by r x f e = ap (λ (o : Option _). o >>= f) e

-- a sign that closes arguments
pub record IsClosing (s : Sign) : Type 0 where
  pub starts : CannotStart s
  pub bang : same_sign signs.Bang s ≡ false
  pub loose : tightness_of_sign s ≤ 0
  pub no_comma : same_sign s signs.Comma ≡ false
  pub itself : same_sign s s ≡ true

round_closes : IsClosing signs.RightRound
round_closes = record { starts = record { minus = refl; dot = refl; round = refl; square = refl; brace = refl }; bang = refl; loose = omega arith; no_comma = refl; itself = refl }

square_closes : IsClosing signs.RightSquare
square_closes = record { starts = record { minus = refl; dot = refl; round = refl; square = refl; brace = refl }; bang = refl; loose = omega arith; no_comma = refl; itself = refl }

brace_starts_nothing : CannotStart signs.RightBrace
brace_starts_nothing = record { minus = refl; dot = refl; round = refl; square = refl; brace = refl }

found : (s : Sign) (rest : List TokenKind) → same_sign s s ≡ true → after s (sign s ∷ rest) ≡ Some rest
found s rest e = ap (λ (b : Bool). cond b (Some rest) None) e

-- where a tree fits if no path in it has more than `limit` nodes
module _ (limit : ℕ) where
  abbrev R : Reader
  R = (read_of limit)

  loop_stops : (n : ℕ) (a : Seen) (ts : List TokenKind) → operator_at n ts ≡ None → R (Loop n a) ts ≡ Some (a, ts)
  loop_stops n a ts e = (read_step limit) (Loop n a) ts ∙ ap (λ (o : Option (BinarySign × List TokenKind)). (loop_part limit) R n a ts o) e

  suffixes_stop : (a : Seen) (ts : List TokenKind) → Ends 6 ts → R (Suffixes a) ts ≡ Some (a, ts)
  suffixes_stop a [] h = (read_step limit) (Suffixes a) []
  suffixes_stop a (k ∷ ks) h = (read_step limit) (Suffixes a) (k ∷ ks) ∙ ap (λ (o : Suffix). (suffix_part limit) R a (k ∷ ks) ks o) (no_suffix k h)

  abbrev Complete : Symbol → List TokenKind → Tree → Type 0
  Complete Expr ts t = (rest : List TokenKind) → Ends 0 rest → R AnExpr (ts ++ rest) ≡ Some ((cap limit) t, rest)
  Complete (Level n) ts t = (m : ℕ) (rest : List TokenKind) → m ≤ n → Ends (suc n) rest → Ends 6 rest → R (Climb m) (ts ++ rest) ≡ R (Loop m ((cap limit) t)) rest
  Complete Unary ts t = (rest : List TokenKind) → Ends 6 rest → R AUnary (ts ++ rest) ≡ Some ((cap limit) t, rest)
  Complete Postfix ts t = (rest : List TokenKind) → after signs.LeftRound rest ≡ None → R APostfix (ts ++ rest) ≡ R (Suffixes ((cap limit) t)) rest
  Complete Primary ts t = (rest : List TokenKind) → R APrimary (ts ++ rest) ≡ Some ((cap limit) t, rest)
  Complete Args ts t = (s : Sign) (rest : List TokenKind) → IsClosing s → R (UpTo s) (ts ++ (sign s ∷ rest)) ≡ Some ((cap limit) t, rest)
  Complete Exprs ts t = (rest : List TokenKind) → Ends 0 rest → R SomeExprs (ts ++ rest) ≡ R (MoreExprs ((cap limit) t)) rest
  Complete MemberList ts t = (rest : List TokenKind) → R ToBrace (ts ++ (sign signs.RightBrace ∷ rest)) ≡ Some ((cap limit) t, rest)
  Complete PairList ts t = (rest : List TokenKind) → Ends 0 rest → R (APair ((cap limit) (Members no_pair))) (ts ++ rest) ≡ R (MorePairs ((cap limit) t)) rest

  whole_level : (n : ℕ) (ts : List TokenKind) (t : Tree) → n ≤ 6 → Complete (Level n) ts t → (rest : List TokenKind) → Ends n rest → R (Climb n) (ts ++ rest) ≡ Some ((cap limit) t, rest)
  whole_level n ts t le c rest h =
      c n rest (omega arith) (Ends-more n (suc n) rest (omega arith) h) (Ends-more n 6 rest le h)
      ∙ loop_stops n ((cap limit) t) rest (not_operator n n rest (omega arith) h)

  operator_there : (m : ℕ) (k : TokenKind) (o : BinarySign) (ks : List TokenKind) → operator_of k ≡ Some o → m ≤ level_of o → operator_at m (k ∷ ks) ≡ Some (o, ks)
  operator_there m k o ks e le =
      let x : BinarySign × List TokenKind = (o, ks) in
      ap (λ (p : Option BinarySign). high_enough m p ks) e ∙ ap (λ (b : Bool). cond b (Some x) None) (le-leb m (level_of o) le)

  -- a bracket after a postfix
  complete_square : (us vs : List TokenKind) (a b : Tree) → Complete Postfix us a → Complete Expr vs b → (rest : List TokenKind) → R APostfix ((us ++ (sign signs.LeftSquare ∷ (vs ++ (sign signs.RightSquare ∷ [])))) ++ rest) ≡ R (Suffixes ((seen_bracket limit) ((cap limit) a) ((cap limit) b))) rest
  complete_square us vs a b ca cb rest =
      let left = sign signs.LeftSquare in
      let right = sign signs.RightSquare in
      let after_left = vs ++ (right ∷ rest) in
      let regroup : (us ++ (left ∷ (vs ++ (right ∷ [])))) ++ rest ≡ us ++ (left ∷ after_left) = append_assoc us (left ∷ (vs ++ (right ∷ []))) rest ∙ ap (λ (w : List TokenKind). us ++ (left ∷ w)) (append_assoc vs (right ∷ []) rest) in
      ap (λ (w : List TokenKind). R APostfix w) regroup
      ∙ ca (left ∷ after_left) refl
      ∙ (read_step limit) (Suffixes ((cap limit) a)) (left ∷ after_left)
      ∙ bind_by (R AnExpr after_left) ((cap limit) b, right ∷ rest) (λ x. (square_part limit) R ((cap limit) a) x.0 (after signs.RightSquare x.1)) (cb (right ∷ rest) (omega arith))

  pair_read : (a : Seen) (b : Tree) (k : TokenKind) (n : List ℕ) (vs : List TokenKind) → key_of k ≡ Some n → Complete Expr vs b → (rest : List TokenKind) → Ends 0 rest → R (APair a) (k ∷ sign signs.Colon ∷ (vs ++ rest)) ≡ R (MorePairs ((seen_pair limit) a n ((cap limit) b))) rest
  pair_read a b k n vs m c rest h =
      let us = sign signs.Colon ∷ (vs ++ rest) in
      (read_step limit) (APair a) (k ∷ us)
      ∙ ap (λ (o : Option (List ℕ)). (pair_part limit) R a (with_rest o us)) m
      ∙ bind_by (R AnExpr (vs ++ rest)) ((cap limit) b, rest) (λ x. R (MorePairs ((seen_pair limit) a n x.0)) x.1) (c rest h)

  pub complete : {y : Symbol} {ts : List TokenKind} {t : Tree} → Spells y ts t → Complete y ts t
  complete (plain {ts = ts} {t = t} d) = λ rest h.
      let x : Seen × List TokenKind = ((cap limit) t, rest) in
      (read_step limit) AnExpr (ts ++ rest)
      ∙ bind_by (R (Climb 1) (ts ++ rest)) x (λ a. (choice_part limit) R a.0 a.1 (after signs.Question a.1)) (whole_level 1 ts t (omega arith) (complete d) rest (Ends-more 0 1 rest (omega arith) h))
      ∙ ap (λ (o : Option (List TokenKind)). (choice_part limit) R ((cap limit) t) rest o) (not_after 0 signs.Question rest (omega arith) h)
  complete (choose {us = us} {vs = vs} {ws = ws} {a = a} {b = b} {c = c} d e f) = λ rest h.
      let question = sign signs.Question in
      let colon = sign signs.Colon in
      let third = ws ++ rest in
      let second = vs ++ (colon ∷ third) in
      let regroup : (us ++ (question ∷ (vs ++ (colon ∷ ws)))) ++ rest ≡ us ++ (question ∷ second) = append_assoc us (question ∷ (vs ++ (colon ∷ ws))) rest ∙ ap (λ (w : List TokenKind). us ++ (question ∷ w)) (append_assoc vs (colon ∷ ws) rest) in
      ap (λ (w : List TokenKind). R AnExpr w) regroup
      ∙ (read_step limit) AnExpr (us ++ (question ∷ second))
      ∙ bind_by (R (Climb 1) (us ++ (question ∷ second))) ((cap limit) a, question ∷ second) (λ x. (choice_part limit) R x.0 x.1 (after signs.Question x.1)) (whole_level 1 us a (omega arith) (complete d) (question ∷ second) (omega arith))
      ∙ ap (λ (o : Option (List TokenKind)). (or_part limit) R ((cap limit) a) second o) (not_start e signs.Colon colon_starts_nothing refl (colon ∷ third))
      ∙ bind_by (R AnExpr second) ((cap limit) b, colon ∷ third) (λ x. (colon_part limit) R ((cap limit) a) x.0 (after signs.Colon x.1)) (complete e (colon ∷ third) (omega arith))
      ∙ bind_by (R AnExpr third) ((cap limit) c, rest) (λ x. Some ((seen_choose limit) ((cap limit) a) ((cap limit) b) x.0, x.1)) (complete f rest h)
      ∙ ap (λ (s : Seen). Some (s, rest)) ((cap_choose limit) a b c)
  complete (or_else {us = us} {ws = ws} {a = a} {c = c} d f) = λ rest h.
      let question = sign signs.Question in
      let colon = sign signs.Colon in
      let third = ws ++ rest in
      ap (λ (w : List TokenKind). R AnExpr w) (append_assoc us (question ∷ colon ∷ ws) rest)
      ∙ (read_step limit) AnExpr (us ++ (question ∷ colon ∷ third))
      ∙ bind_by (R (Climb 1) (us ++ (question ∷ colon ∷ third))) ((cap limit) a, question ∷ colon ∷ third) (λ x. (choice_part limit) R x.0 x.1 (after signs.Question x.1)) (whole_level 1 us a (omega arith) (complete d) (question ∷ colon ∷ third) (omega arith))
      ∙ bind_by (R AnExpr third) ((cap limit) c, rest) (λ x. Some ((seen_or_else limit) ((cap limit) a) x.0, x.1)) (complete f rest h)
      ∙ ap (λ (s : Seen). Some (s, rest)) ((cap_or_else limit) a c)
  complete (operation {us = us} {vs = vs} {a = a} {b = b} k o means d e) = λ m rest le h h6.
      let l = level_of o in
      let high = level_at_most o in
      let g = operator_tightness k o means in
      ap (λ (w : List TokenKind). R (Climb m) w) (append_assoc us (k ∷ vs) rest)
      ∙ complete d m (k ∷ (vs ++ rest)) le (omega arith) (omega arith)
      ∙ (read_step limit) (Loop m ((cap limit) a)) (k ∷ (vs ++ rest))
      ∙ ap (λ (p : Option (BinarySign × List TokenKind)). (loop_part limit) R m ((cap limit) a) (k ∷ (vs ++ rest)) p) (operator_there m k o (vs ++ rest) means le)
      ∙ bind_by (R (Climb (suc l)) (vs ++ rest)) ((cap limit) b, rest) (λ x. R (Loop m ((seen_binary limit) o ((cap limit) a) x.0)) x.1) (whole_level (suc l) vs b high (complete e) rest h)
      ∙ ap (λ (s : Seen). R (Loop m s) rest) ((cap_binary limit) o a b)
  complete (tighter {n = n} d) = λ m rest le h h6. complete d m rest (omega arith) (Ends-more (suc n) (suc (suc n)) rest (omega arith) h) h6
  complete (tightest {ts = ts} {t = t} d) = λ m rest le h h6.
      (read_step limit) (Climb m) (ts ++ rest)
      ∙ bind_by (R AUnary (ts ++ rest)) ((cap limit) t, rest) (λ x. R (Loop m x.0) x.1) (complete d rest h6)
  complete (negation {ts = ts} {t = t} d) = λ rest h.
      (read_step limit) AUnary (sign signs.Bang ∷ (ts ++ rest))
      ∙ bind_by (R AUnary (ts ++ rest)) ((cap limit) t, rest) (λ x. Some ((seen_not limit) x.0, x.1)) (complete d rest h)
      ∙ ap (λ (s : Seen). Some (s, rest)) ((cap_not limit) t)
  complete (positive {ts = ts} {t = t} d) = λ rest h.
      (read_step limit) AUnary (ts ++ rest)
      ∙ ap (λ (o : Option (List TokenKind)). (unary_part limit) R (ts ++ rest) o) (not_start d signs.Bang bang_starts_no_postfix tt rest)
      ∙ complete d rest (not_after 6 signs.LeftRound rest (omega arith) h)
      ∙ suffixes_stop ((cap limit) t) rest h
  complete (primary {ts = ts} {t = t} d) = λ rest q.
      (read_step limit) APostfix (ts ++ rest)
      ∙ bind_by (R APrimary (ts ++ rest)) ((cap limit) t, rest) (λ x. R (Suffixes x.0) x.1) (complete d rest)
  complete (member {ts = ts} {a = a} n d) = λ rest q.
      ap (λ (w : List TokenKind). R APostfix w) (append_assoc ts (sign signs.Dot ∷ kinds.Name n ∷ []) rest)
      ∙ complete d (sign signs.Dot ∷ kinds.Name n ∷ rest) refl
      ∙ (read_step limit) (Suffixes ((cap limit) a)) (sign signs.Dot ∷ kinds.Name n ∷ rest)
      ∙ ap (λ (s : Seen). R (Suffixes s) rest) ((cap_member limit) a n)
  complete (index {us = us} {vs = vs} {a = a} {b = b} d e free) = λ rest q.
      complete_square us vs a b (complete d) (complete e) rest ∙ ap (λ (s : Seen). R (Suffixes s) rest) ((cap_index limit) a b free)
  complete (filter {us = us} {vs = vs} {a = a} {b = b} d e bound) = λ rest q.
      complete_square us vs a b (complete d) (complete e) rest ∙ ap (λ (s : Seen). R (Suffixes s) rest) ((cap_filter limit) a b bound)
  complete (transform {ts = ts} {a = a} n p d) = λ rest q.
      ap (λ (w : List TokenKind). R APostfix w) (append_assoc ts (sign signs.Bar ∷ kinds.Name n ∷ []) rest)
      ∙ complete d (sign signs.Bar ∷ kinds.Name n ∷ rest) refl
      ∙ (read_step limit) (Suffixes ((cap limit) a)) (sign signs.Bar ∷ kinds.Name n ∷ rest)
      ∙ ap (λ (w : Word). (transform_part limit) R ((cap limit) a) (if_plain n rest w)) p
      ∙ ap (λ (o : Option (List TokenKind)). (args_part limit) R ((cap limit) a) n rest o) q
      ∙ ap (λ (s : Seen). R (Suffixes s) rest) ((cap_args limit) a n none)
  complete (transform_with {us = us} {vs = vs} {a = a} {bs = bs} n p d e) = λ rest q.
      let left = sign signs.LeftRound in
      let right = sign signs.RightRound in
      let front : List TokenKind → List TokenKind = λ w. sign signs.Bar ∷ kinds.Name n ∷ left ∷ w in
      let inside = vs ++ (right ∷ rest) in
      let regroup : (us ++ (front (vs ++ (right ∷ [])))) ++ rest ≡ us ++ (front inside) = append_assoc us (front (vs ++ (right ∷ []))) rest ∙ ap (λ (w : List TokenKind). us ++ (front w)) (append_assoc vs (right ∷ []) rest) in
      ap (λ (w : List TokenKind). R APostfix w) regroup
      ∙ complete d (front inside) refl
      ∙ (read_step limit) (Suffixes ((cap limit) a)) (front inside)
      ∙ ap (λ (w : Word). (transform_part limit) R ((cap limit) a) (if_plain n (left ∷ inside) w)) p
      ∙ bind_by (R (UpTo signs.RightRound) inside) ((cap limit) (Items bs), rest) (λ x. R (Suffixes ((seen_args limit) ((cap limit) a) n x.0)) x.1) (complete e signs.RightRound rest round_closes)
      ∙ ap (λ (s : Seen). R (Suffixes s) rest) ((cap_args limit) a n bs)
  complete (number n) = λ rest. (read_step limit) APrimary (kinds.Number n ∷ rest)
  complete (negative n p) = λ rest. (read_step limit) APrimary (sign signs.Minus ∷ kinds.Number n ∷ rest)
      ∙ ap (λ (b : Bool). cond b (some_number n rest) None >>= λ x. some_kept ((cap limit) (Literal (Whole (neg_ℤ x.0)))) x.1) p
  complete (quoted q) = λ rest. (read_step limit) APrimary (kinds.Quoted q ∷ rest)
  complete (truth n p) = λ rest. (read_step limit) APrimary (kinds.Name n ∷ rest) ∙ ap (λ (w : Word). (word_part limit) n rest w) p
  complete (falsity n p) = λ rest. (read_step limit) APrimary (kinds.Name n ∷ rest) ∙ ap (λ (w : Word). (word_part limit) n rest w) p
  complete (null n p) = λ rest. (read_step limit) APrimary (kinds.Name n ∷ rest) ∙ ap (λ (w : Word). (word_part limit) n rest w) p
  complete (name n p) = λ rest. (read_step limit) APrimary (kinds.Name n ∷ rest) ∙ ap (λ (w : Word). (word_part limit) n rest w) p
  complete (relative n) = λ rest. (read_step limit) APrimary (sign signs.Dot ∷ kinds.Name n ∷ rest)
  complete (group {ts = ts} {t = t} d) = λ rest.
      let left = sign signs.LeftRound in
      let right = sign signs.RightRound in
      ap (λ (w : List TokenKind). R APrimary (left ∷ w)) (append_assoc ts (right ∷ []) rest)
      ∙ (read_step limit) APrimary (left ∷ (ts ++ (right ∷ rest)))
      ∙ bind_by (R AnExpr (ts ++ (right ∷ rest))) ((cap limit) t, right ∷ rest) (λ x. (closed_part limit) x.0 (after signs.RightRound x.1)) (complete d (right ∷ rest) (omega arith))
  complete (items {ts = ts} {t = t} d) = λ rest.
      let left = sign signs.LeftSquare in
      let right = sign signs.RightSquare in
      ap (λ (w : List TokenKind). R APrimary (left ∷ w)) (append_assoc ts (right ∷ []) rest)
      ∙ (read_step limit) APrimary (left ∷ (ts ++ (right ∷ rest)))
      ∙ complete d signs.RightSquare rest square_closes
  complete (object {ts = ts} {t = t} d) = λ rest.
      let left = sign signs.LeftBrace in
      let right = sign signs.RightBrace in
      ap (λ (w : List TokenKind). R APrimary (left ∷ w)) (append_assoc ts (right ∷ []) rest)
      ∙ (read_step limit) APrimary (left ∷ (ts ++ (right ∷ rest)))
      ∙ complete d rest
  complete no_args = λ s rest c.
      (read_step limit) (UpTo s) (sign s ∷ rest)
      ∙ ap (λ (o : Option (List TokenKind)). (up_to_part limit) R s (sign s ∷ rest) o) (found s rest c.itself)
  complete (args {ts = ts} {t = t} d) = λ s rest c.
      let us = sign s ∷ rest in
      let stop : R (MoreExprs ((cap limit) t)) us ≡ Some ((cap limit) t, us) = (read_step limit) (MoreExprs ((cap limit) t)) us ∙ ap (λ (o : Option (List TokenKind)). (more_exprs_part limit) R ((cap limit) t) us o) (skip signs.Comma s rest c.no_comma) in
      (read_step limit) (UpTo s) (ts ++ us)
      ∙ ap (λ (o : Option (List TokenKind)). (up_to_part limit) R s (ts ++ us) o) (not_start d s c.starts c.bang us)
      ∙ bind_by (R SomeExprs (ts ++ us)) ((cap limit) t, us) (λ x. (closed_part limit) x.0 (after s x.1)) (complete d us c.loose ∙ stop)
      ∙ ap (λ (o : Option (List TokenKind)). (closed_part limit) ((cap limit) t) o) (found s rest c.itself)
  complete (one_expr {ts = ts} {t = t} d) = λ rest h.
      (read_step limit) SomeExprs (ts ++ rest)
      ∙ bind_by (R AnExpr (ts ++ rest)) ((cap limit) t, rest) (λ x. R (MoreExprs ((seen_item limit) ((cap limit) (Items none)) x.0)) x.1) (complete d rest h)
      ∙ ap (λ (s : Seen). R (MoreExprs s) rest) ((cap_item limit) none t)
  complete (next_expr {us = us} {vs = vs} {ls = ls} {b = b} d e) = λ rest h.
      let comma = sign signs.Comma in
      ap (λ (w : List TokenKind). R SomeExprs w) (append_assoc us (comma ∷ vs) rest)
      ∙ complete d (comma ∷ (vs ++ rest)) (omega arith)
      ∙ (read_step limit) (MoreExprs ((cap limit) (Items ls))) (comma ∷ (vs ++ rest))
      ∙ bind_by (R AnExpr (vs ++ rest)) ((cap limit) b, rest) (λ x. R (MoreExprs ((seen_item limit) ((cap limit) (Items ls)) x.0)) x.1) (complete e rest h)
      ∙ ap (λ (s : Seen). R (MoreExprs s) rest) ((cap_item limit) ls b)
  complete no_members = λ rest. (read_step limit) ToBrace (sign signs.RightBrace ∷ rest)
  complete (members {ts = ts} {t = t} d) = λ rest.
      let us = sign signs.RightBrace ∷ rest in
      (read_step limit) ToBrace (ts ++ us)
      ∙ ap (λ (o : Option (List TokenKind)). (to_brace_part limit) R (ts ++ us) o) (not_start d signs.RightBrace brace_starts_nothing tt us)
      ∙ bind_by (R (APair ((cap limit) (Members no_pair))) (ts ++ us)) ((cap limit) t, us) (λ x. (closed_part limit) x.0 (after signs.RightBrace x.1)) (complete d us (omega arith) ∙ (read_step limit) (MorePairs ((cap limit) t)) us)
  complete (one_pair {vs = vs} {b = b} k n m d) = λ rest h. pair_read ((cap limit) (Members no_pair)) b k n vs m (complete d) rest h ∙ ap (λ (s : Seen). R (MorePairs s) rest) ((cap_pair limit) no_pair n b)
  complete (next_pair {us = us} {vs = vs} {ps = ps} {b = b} k n m d e) = λ rest h.
      let inner = sign signs.Comma ∷ k ∷ sign signs.Colon ∷ vs in
      ap (λ (w : List TokenKind). R (APair ((cap limit) (Members no_pair))) w) (append_assoc us inner rest)
      ∙ complete d (inner ++ rest) (omega arith)
      ∙ (read_step limit) (MorePairs ((cap limit) (Members ps))) (inner ++ rest)
      ∙ pair_read ((cap limit) (Members ps)) b k n vs m (complete e) rest h ∙ ap (λ (s : Seen). R (MorePairs s) rest) ((cap_pair limit) ps n b)
