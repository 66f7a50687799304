-- The grammar of Jexl: which tokens spell which tree.
use Rattle.std.specs.Prelude.{◌≡◌, ℕ, suc, ℤ, pos, neg_ℤ, int_le, true, false, List, [], ◌∷◌, ◌++◌, Option, Some, None}
use Rattle.jexl_lexer.specs.declared.token.Sign.{Sign}
use Rattle.jexl_lexer.specs.declared.token.Sign.TheVariants as signs
use Rattle.jexl_lexer.specs.declared.token.TokenKind.{TokenKind}
use Rattle.jexl_lexer.specs.declared.token.TokenKind.TheVariants as kinds
use Rattle.jexl_parser.specs.declared.node.BinarySign.{BinarySign}
use Rattle.jexl_parser.specs.declared.node.BinarySign.TheVariants as binary
use Rattle.jexl_parser.specs.declared.front.Word.{Word}
use Rattle.jexl_parser.specs.declared.front.Word.TheVariants as words
use Rattle.jexl_parser.specs.Words.{word_of}
use Rattle.jexl_parser.specs.Tree.{Null, Truth, Whole, Quote, Tree, Literal, Named, Relative, Items, Members, Member, Index, Filter, Transform, Not, Binary, Choose, OrElse, Trees, none, one_more, Pairs, no_pair, pair, add, add_pair, has_relative}

-- the operator that a token is
abbrev pub operator_of_sign : Sign → Option BinarySign
operator_of_sign signs.And = Some binary.And
operator_of_sign signs.Or = Some binary.Or
operator_of_sign signs.Equal = Some binary.Equal
operator_of_sign signs.NotEqual = Some binary.NotEqual
operator_of_sign signs.AtMost = Some binary.AtMost
operator_of_sign signs.AtLeast = Some binary.AtLeast
operator_of_sign signs.FloorDiv = Some binary.FloorDiv
operator_of_sign signs.Less = Some binary.Less
operator_of_sign signs.Greater = Some binary.Greater
operator_of_sign signs.Plus = Some binary.Plus
operator_of_sign signs.Minus = Some binary.Minus
operator_of_sign signs.Star = Some binary.Times
operator_of_sign signs.Percent = Some binary.Percent
operator_of_sign signs.Caret = Some binary.Power
operator_of_sign _ = None

abbrev pub operator_of_word : Word → Option BinarySign
operator_of_word words.In = Some binary.Inside
operator_of_word _ = None

abbrev pub operator_of : TokenKind → Option BinarySign
operator_of (kinds.Number n) = None
operator_of (kinds.Quoted q) = None
operator_of (kinds.Name n) = operator_of_word (word_of n)
operator_of (kinds.Sign s) = operator_of_sign s

-- the level of an operator: 1 is the loosest, and 5 the tightest
abbrev pub level_of : BinarySign → ℕ
level_of binary.And = 1
level_of binary.Or = 1
level_of binary.Equal = 2
level_of binary.NotEqual = 2
level_of binary.Less = 2
level_of binary.AtMost = 2
level_of binary.Greater = 2
level_of binary.AtLeast = 2
level_of binary.Inside = 2
level_of binary.Plus = 3
level_of binary.Minus = 3
level_of binary.Times = 4
level_of binary.FloorDiv = 4
level_of binary.Percent = 5
level_of binary.Power = 5

-- key = name | quoted
abbrev pub key_of : TokenKind → Option (List ℕ)
key_of (kinds.Number n) = None
key_of (kinds.Quoted q) = Some q
key_of (kinds.Name n) = Some n
key_of (kinds.Sign s) = None

-- what stands on the left of a rule of the grammar
pub data Symbol : Type 0 where
  Expr : Symbol
  Level : ℕ → Symbol
  Unary : Symbol
  Postfix : Symbol
  Primary : Symbol
  Args : Symbol
  Exprs : Symbol
  MemberList : Symbol
  PairList : Symbol

-- a sign as a token
abbrev pub sign : Sign → TokenKind
sign s = kinds.Sign s

-- The tokens spell the tree, by one clause for each alternative of the grammar. What args and exprs spell stands as the list that it
-- would be in square brackets, and what members and pairs spell as the members that it would be in braces
pub data Spells : Symbol → List TokenKind → Tree → Type 0 where
  -- expr = level1 | level1 ? expr : expr | level1 ? : expr
  plain : {ts : List TokenKind} {t : Tree} → Spells (Level 1) ts t
      → Spells Expr ts t
  choose : {us vs ws : List TokenKind} {a b c : Tree} → Spells (Level 1) us a → Spells Expr vs b → Spells Expr ws c
      → Spells Expr (us ++ (sign signs.Question ∷ (vs ++ (sign signs.Colon ∷ ws)))) (Choose a b c)
  or_else : {us ws : List TokenKind} {a c : Tree} → Spells (Level 1) us a → Spells Expr ws c
      → Spells Expr (us ++ (sign signs.Question ∷ sign signs.Colon ∷ ws)) (OrElse a c)
  -- level n = level n operator level (n + 1) | level (n + 1), for an operator of level n. Level 6 is a unary
  operation : {us vs : List TokenKind} {a b : Tree} (k : TokenKind) (o : BinarySign)
      → operator_of k ≡ Some o → Spells (Level (level_of o)) us a → Spells (Level (suc (level_of o))) vs b
      → Spells (Level (level_of o)) (us ++ (k ∷ vs)) (Binary o a b)
  tighter : {n : ℕ} {ts : List TokenKind} {t : Tree} → Spells (Level (suc n)) ts t
      → Spells (Level n) ts t
  tightest : {ts : List TokenKind} {t : Tree} → Spells Unary ts t
      → Spells (Level 6) ts t
  -- unary = ! unary | postfix
  negation : {ts : List TokenKind} {t : Tree} → Spells Unary ts t
      → Spells Unary (sign signs.Bang ∷ ts) (Not t)
  positive : {ts : List TokenKind} {t : Tree} → Spells Postfix ts t
      → Spells Unary ts t
  -- postfix = primary | postfix . name | postfix [ expr ] | postfix | name | postfix | name ( args ), where the sign | stands before a name.
  -- A bracket to which a relative name belongs is a filter, every other one an index
  primary : {ts : List TokenKind} {t : Tree} → Spells Primary ts t
      → Spells Postfix ts t
  member : {ts : List TokenKind} {a : Tree} (n : List ℕ) → Spells Postfix ts a
      → Spells Postfix (ts ++ (sign signs.Dot ∷ kinds.Name n ∷ [])) (Member a n)
  index : {us vs : List TokenKind} {a b : Tree} → Spells Postfix us a → Spells Expr vs b → has_relative b ≡ false
      → Spells Postfix (us ++ (sign signs.LeftSquare ∷ (vs ++ (sign signs.RightSquare ∷ [])))) (Index a b)
  filter : {us vs : List TokenKind} {a b : Tree} → Spells Postfix us a → Spells Expr vs b → has_relative b ≡ true
      → Spells Postfix (us ++ (sign signs.LeftSquare ∷ (vs ++ (sign signs.RightSquare ∷ [])))) (Filter a b)
  transform : {ts : List TokenKind} {a : Tree} (n : List ℕ) → word_of n ≡ words.Plain → Spells Postfix ts a
      → Spells Postfix (ts ++ (sign signs.Bar ∷ kinds.Name n ∷ [])) (Transform a n none)
  transform_with : {us vs : List TokenKind} {a : Tree} {bs : Trees} (n : List ℕ) → word_of n ≡ words.Plain → Spells Postfix us a → Spells Args vs (Items bs)
      → Spells Postfix (us ++ (sign signs.Bar ∷ kinds.Name n ∷ sign signs.LeftRound ∷ (vs ++ (sign signs.RightRound ∷ [])))) (Transform a n bs)
  -- primary = number | - number | quoted | true | false | null | name | . name | ( expr ) | [ args ] | { members }
  number : (n : ℤ)
      → Spells Primary (kinds.Number n ∷ []) (Literal (Whole n))
  negative : (n : ℤ) → int_le (pos 0) n ≡ true
      → Spells Primary (sign signs.Minus ∷ kinds.Number n ∷ []) (Literal (Whole (neg_ℤ n)))
  quoted : (q : List ℕ)
      → Spells Primary (kinds.Quoted q ∷ []) (Literal (Quote q))
  truth : (n : List ℕ) → word_of n ≡ words.True
      → Spells Primary (kinds.Name n ∷ []) (Literal (Truth true))
  falsity : (n : List ℕ) → word_of n ≡ words.False
      → Spells Primary (kinds.Name n ∷ []) (Literal (Truth false))
  null : (n : List ℕ) → word_of n ≡ words.Null
      → Spells Primary (kinds.Name n ∷ []) (Literal Null)
  name : (n : List ℕ) → word_of n ≡ words.Plain
      → Spells Primary (kinds.Name n ∷ []) (Named n)
  relative : (n : List ℕ)
      → Spells Primary (sign signs.Dot ∷ kinds.Name n ∷ []) (Relative n)
  group : {ts : List TokenKind} {t : Tree} → Spells Expr ts t
      → Spells Primary (sign signs.LeftRound ∷ (ts ++ (sign signs.RightRound ∷ []))) t
  items : {ts : List TokenKind} {t : Tree} → Spells Args ts t
      → Spells Primary (sign signs.LeftSquare ∷ (ts ++ (sign signs.RightSquare ∷ []))) t
  object : {ts : List TokenKind} {t : Tree} → Spells MemberList ts t
      → Spells Primary (sign signs.LeftBrace ∷ (ts ++ (sign signs.RightBrace ∷ []))) t
  -- args = nothing | exprs
  no_args : Spells Args [] (Items none)
  args : {ts : List TokenKind} {t : Tree} → Spells Exprs ts t
      → Spells Args ts t
  -- exprs = expr | exprs , expr
  one_expr : {ts : List TokenKind} {t : Tree} → Spells Expr ts t
      → Spells Exprs ts (Items (one_more t none))
  next_expr : {us vs : List TokenKind} {ls : Trees} {b : Tree} → Spells Exprs us (Items ls) → Spells Expr vs b
      → Spells Exprs (us ++ (sign signs.Comma ∷ vs)) (Items (add ls b))
  -- members = nothing | pairs
  no_members : Spells MemberList [] (Members no_pair)
  members : {ts : List TokenKind} {t : Tree} → Spells PairList ts t
      → Spells MemberList ts t
  -- pairs = key : expr | pairs , key : expr
  one_pair : {vs : List TokenKind} {b : Tree} (k : TokenKind) (n : List ℕ) → key_of k ≡ Some n → Spells Expr vs b
      → Spells PairList (k ∷ sign signs.Colon ∷ vs) (Members (pair n b no_pair))
  next_pair : {us vs : List TokenKind} {ps : Pairs} {b : Tree} (k : TokenKind) (n : List ℕ) → key_of k ≡ Some n → Spells PairList us (Members ps) → Spells Expr vs b
      → Spells PairList (us ++ (sign signs.Comma ∷ k ∷ sign signs.Colon ∷ vs)) (Members (add_pair ps n b))

-- the tokens spell the tree, in which each relative name belongs to a bracket
pub record SpellsTree (ts : List TokenKind) (t : Tree) : Type 0 where
  pub spelled : Spells Expr ts t
  pub closed : has_relative t ≡ false
