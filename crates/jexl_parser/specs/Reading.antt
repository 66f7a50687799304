-- Reading a tree from the left, as a function on tokens: what the functions of the parser give. It climbs precedences, and stands apart from the
-- grammar.
use Rattle.std.specs.Prelude.{ℕ, zero, suc, ◌+◌, ◌*◌, ℤ, pos, neg_ℤ, int_le, true, false, List, [], ◌∷◌, length, Option, Some, None, cond, nat_le}
use Rattle.jexl_lexer.specs.declared.token.Sign.{Sign}
use Rattle.jexl_lexer.specs.declared.token.Sign.TheVariants as signs
use Rattle.jexl_lexer.specs.declared.token.TokenKind.{TokenKind}
use Rattle.jexl_lexer.specs.declared.token.TokenKind.TheVariants as kinds
use Rattle.jexl_parser.specs.declared.node.BinarySign.{BinarySign}
use Rattle.jexl_parser.specs.declared.front.Word.{Word}
use Rattle.jexl_parser.specs.declared.front.Word.TheVariants as words
use Rattle.jexl_parser.specs.declared.front.Suffix.{Suffix}
use Rattle.jexl_parser.specs.declared.front.Suffix.TheVariants as suffixes
use Rattle.jexl_parser.specs.declared.front.Opening.{Opening}
use Rattle.jexl_parser.specs.declared.front.Opening.TheVariants as openings
use Rattle.jexl_parser.specs.Words.{word_of}
use Rattle.jexl_parser.specs.Tokens.{is_sign}
use Rattle.jexl_parser.specs.Tree.{Null, Truth, Whole, Quote, Literal, Named, Relative, Items, Members, none, no_pair}
use Rattle.jexl_parser.specs.Seen.{Seen, cap, seen_not, seen_member, seen_bracket, seen_binary, seen_or_else, seen_choose, seen_args, seen_item, seen_pair}
use Rattle.jexl_parser.specs.Grammar.{operator_of, level_of, key_of}

infixl 10 ◌>>=◌
abbrev pub ◌>>=◌ : {A B : Type 0} → Option A → (A → Option B) → Option B
None >>= f = None
(Some x) >>= f = f x

-- what is read, and the tokens after it; none where the tokens begin no tree
abbrev pub Read : Type 0
Read = Option (Seen × List TokenKind)

-- what is to be read
pub data Job : Type 0 where
  AnExpr : Job
  Climb : ℕ → Job  -- a tree with operators of this level and tighter ones
  Loop : ℕ → Seen → Job  -- the same, after its first part
  AUnary : Job
  APostfix : Job
  Suffixes : Seen → Job  -- the postfixes of a tree
  APrimary : Job
  UpTo : Sign → Job  -- a list of arguments, and this sign after it
  SomeExprs : Job
  MoreExprs : Seen → Job  -- the expressions after these
  ToBrace : Job  -- a list of members, and the closing brace
  APair : Seen → Job  -- a pair after these, and the pairs after it
  MorePairs : Seen → Job  -- the pairs after these

abbrev pub Reader : Type 0
Reader = Job → List TokenKind → Read

-- the tokens after this sign
abbrev pub after : Sign → List TokenKind → Option (List TokenKind)
after s [] = None
after s (k ∷ ks) = cond (is_sign s k) (Some ks) None

-- a name at the front
abbrev pub name_at : List TokenKind → Option (List ℕ × List TokenKind)
name_at [] = None
name_at (kinds.Number n ∷ ks) = None
name_at (kinds.Quoted q ∷ ks) = None
name_at (kinds.Name n ∷ ks) = Some (n, ks)
name_at (kinds.Sign s ∷ ks) = None

abbrev pub if_plain : List ℕ → List TokenKind → Word → Option (List ℕ × List TokenKind)
if_plain n ks words.Plain = Some (n, ks)
if_plain n ks _ = None

-- a plain name at the front
abbrev pub plain_at : List TokenKind → Option (List ℕ × List TokenKind)
plain_at [] = None
plain_at (kinds.Number n ∷ ks) = None
plain_at (kinds.Quoted q ∷ ks) = None
plain_at (kinds.Name n ∷ ks) = if_plain n ks (word_of n)
plain_at (kinds.Sign s ∷ ks) = None

-- a number at the front, not below 0
abbrev pub number_at : List TokenKind → Option (ℤ × List TokenKind)
number_at [] = None
number_at (kinds.Number n ∷ ks) = cond (int_le (pos 0) n) (Some (n, ks)) None
number_at (kinds.Quoted q ∷ ks) = None
number_at (kinds.Name n ∷ ks) = None
number_at (kinds.Sign s ∷ ks) = None

abbrev pub with_rest : Option (List ℕ) → List TokenKind → Option (List ℕ × List TokenKind)
with_rest None ks = None
with_rest (Some n) ks = Some (n, ks)

-- a key at the front
abbrev pub key_at : List TokenKind → Option (List ℕ × List TokenKind)
key_at [] = None
key_at (k ∷ ks) = with_rest (key_of k) ks

abbrev pub high_enough : ℕ → Option BinarySign → List TokenKind → Option (BinarySign × List TokenKind)
high_enough lowest None ks = None
high_enough lowest (Some o) ks = cond (nat_le lowest (level_of o)) (Some (o, ks)) None

-- an operator of this level or a tighter one
abbrev pub operator_at : ℕ → List TokenKind → Option (BinarySign × List TokenKind)
operator_at lowest [] = None
operator_at lowest (k ∷ ks) = high_enough lowest (operator_of k) ks

-- what a sign after a postfix begins
abbrev pub suffix_of_sign : Sign → Suffix
suffix_of_sign signs.Dot = suffixes.Member
suffix_of_sign signs.LeftSquare = suffixes.Bracket
suffix_of_sign signs.Bar = suffixes.Transform
suffix_of_sign _ = suffixes.None

abbrev pub suffix_of : TokenKind → Suffix
suffix_of (kinds.Number n) = suffixes.None
suffix_of (kinds.Quoted q) = suffixes.None
suffix_of (kinds.Name n) = suffixes.None
suffix_of (kinds.Sign s) = suffix_of_sign s

-- what a sign at the front of a primary begins
abbrev pub opening_of : Sign → Opening
opening_of signs.Minus = openings.Minus
opening_of signs.Dot = openings.Dot
opening_of signs.LeftRound = openings.Round
opening_of signs.LeftSquare = openings.Square
opening_of signs.LeftBrace = openings.Brace
opening_of _ = openings.None

abbrev pub rank : Job → ℕ
rank AnExpr = 5
rank (Climb n) = 4
rank (Loop n a) = 0
rank AUnary = 3
rank APostfix = 2
rank (Suffixes a) = 0
rank APrimary = 1
rank (UpTo s) = 7
rank SomeExprs = 6
rank (MoreExprs a) = 0
rank ToBrace = 7
rank (APair a) = 6
rank (MorePairs a) = 0

-- so many steps are enough
abbrev pub need : Job → List TokenKind → ℕ
need job ts = suc (8 * length ts + rank job)

-- where a tree fits if no path in it has more than `limit` nodes
module _ (limit : ℕ) where
  abbrev pub colon_part : Reader → Seen → Seen → Option (List TokenKind) → Read
  colon_part f a b None = None
  colon_part f a b (Some us) = f AnExpr us >>= λ c. Some ((seen_choose limit) a b c.0, c.1)

  abbrev pub or_part : Reader → Seen → List TokenKind → Option (List TokenKind) → Read
  or_part f a us None = f AnExpr us >>= λ b. colon_part f a b.0 (after signs.Colon b.1)
  or_part f a us (Some vs) = f AnExpr vs >>= λ c. Some ((seen_or_else limit) a c.0, c.1)

  abbrev pub choice_part : Reader → Seen → List TokenKind → Option (List TokenKind) → Read
  choice_part f a ts None = Some (a, ts)
  choice_part f a ts (Some us) = or_part f a us (after signs.Colon us)

  abbrev pub loop_part : Reader → ℕ → Seen → List TokenKind → Option (BinarySign × List TokenKind) → Read
  loop_part f n a ts None = Some (a, ts)
  loop_part f n a ts (Some o) = f (Climb (suc (level_of o.0))) o.1 >>= λ b. f (Loop n ((seen_binary limit) o.0 a b.0)) b.1

  abbrev pub unary_part : Reader → List TokenKind → Option (List TokenKind) → Read
  unary_part f ts None = f APostfix ts
  unary_part f ts (Some us) = f AUnary us >>= λ a. Some ((seen_not limit) a.0, a.1)

  abbrev pub member_part : Reader → Seen → Option (List ℕ × List TokenKind) → Read
  member_part f a None = None
  member_part f a (Some n) = f (Suffixes ((seen_member limit) a n.0)) n.1

  abbrev pub square_part : Reader → Seen → Seen → Option (List TokenKind) → Read
  square_part f a b None = None
  square_part f a b (Some us) = f (Suffixes ((seen_bracket limit) a b)) us

  abbrev pub args_part : Reader → Seen → List ℕ → List TokenKind → Option (List TokenKind) → Read
  args_part f a n ts None = f (Suffixes ((seen_args limit) a n ((cap limit) (Items none)))) ts
  args_part f a n ts (Some us) = f (UpTo signs.RightRound) us >>= λ b. f (Suffixes ((seen_args limit) a n b.0)) b.1

  abbrev pub transform_part : Reader → Seen → Option (List ℕ × List TokenKind) → Read
  transform_part f a None = None
  transform_part f a (Some n) = args_part f a n.0 n.1 (after signs.LeftRound n.1)

  abbrev pub suffix_part : Reader → Seen → List TokenKind → List TokenKind → Suffix → Read
  suffix_part f a ts us suffixes.None = Some (a, ts)
  suffix_part f a ts us suffixes.Member = member_part f a (name_at us)
  suffix_part f a ts us suffixes.Bracket = f AnExpr us >>= λ b. square_part f a b.0 (after signs.RightSquare b.1)
  suffix_part f a ts us suffixes.Transform = transform_part f a (plain_at us)

  abbrev pub suffixes_part : Reader → Seen → List TokenKind → Read
  suffixes_part f a [] = Some (a, [])
  suffixes_part f a (k ∷ ks) = suffix_part f a (k ∷ ks) ks (suffix_of k)

  -- a tree, where the sign that closes it was there
  abbrev pub closed_part : Seen → Option (List TokenKind) → Read
  closed_part a None = None
  closed_part a (Some us) = Some (a, us)

  abbrev pub opening_part : Reader → List TokenKind → Opening → Read
  opening_part f ks openings.Minus = number_at ks >>= λ n. Some ((cap limit) (Literal (Whole (neg_ℤ n.0))), n.1)
  opening_part f ks openings.Dot = name_at ks >>= λ n. Some ((cap limit) (Relative n.0), n.1)
  opening_part f ks openings.Round = f AnExpr ks >>= λ a. closed_part a.0 (after signs.RightRound a.1)
  opening_part f ks openings.Square = f (UpTo signs.RightSquare) ks
  opening_part f ks openings.Brace = f ToBrace ks
  opening_part f ks openings.None = None

  abbrev pub word_part : List ℕ → List TokenKind → Word → Read
  word_part n ks words.Plain = Some ((cap limit) (Named n), ks)
  word_part n ks words.In = None
  word_part n ks words.True = Some ((cap limit) (Literal (Truth true)), ks)
  word_part n ks words.False = Some ((cap limit) (Literal (Truth false)), ks)
  word_part n ks words.Null = Some ((cap limit) (Literal Null), ks)

  abbrev pub primary_part : Reader → List TokenKind → Read
  primary_part f [] = None
  primary_part f (kinds.Number n ∷ ks) = Some ((cap limit) (Literal (Whole n)), ks)
  primary_part f (kinds.Quoted q ∷ ks) = Some ((cap limit) (Literal (Quote q)), ks)
  primary_part f (kinds.Name n ∷ ks) = word_part n ks (word_of n)
  primary_part f (kinds.Sign s ∷ ks) = opening_part f ks (opening_of s)

  abbrev pub up_to_part : Reader → Sign → List TokenKind → Option (List TokenKind) → Read
  up_to_part f s ts None = f SomeExprs ts >>= λ a. closed_part a.0 (after s a.1)
  up_to_part f s ts (Some us) = Some ((cap limit) (Items none), us)

  abbrev pub more_exprs_part : Reader → Seen → List TokenKind → Option (List TokenKind) → Read
  more_exprs_part f a ts None = Some (a, ts)
  more_exprs_part f a ts (Some us) = f AnExpr us >>= λ b. f (MoreExprs ((seen_item limit) a b.0)) b.1

  abbrev pub to_brace_part : Reader → List TokenKind → Option (List TokenKind) → Read
  to_brace_part f ts None = f (APair ((cap limit) (Members no_pair))) ts >>= λ a. closed_part a.0 (after signs.RightBrace a.1)
  to_brace_part f ts (Some us) = Some ((cap limit) (Members no_pair), us)

  abbrev pub value_part : Reader → Seen → List ℕ → Option (List TokenKind) → Read
  value_part f a n None = None
  value_part f a n (Some us) = f AnExpr us >>= λ b. f (MorePairs ((seen_pair limit) a n b.0)) b.1

  abbrev pub pair_part : Reader → Seen → Option (List ℕ × List TokenKind) → Read
  pair_part f a None = None
  pair_part f a (Some n) = value_part f a n.0 (after signs.Colon n.1)

  abbrev pub more_pairs_part : Reader → Seen → List TokenKind → Option (List TokenKind) → Read
  more_pairs_part f a ts None = Some (a, ts)
  more_pairs_part f a ts (Some us) = f (APair a) us

  -- one step of reading, by a reader for what comes inside
  abbrev pub step : Reader → Job → List TokenKind → Read
  step f AnExpr ts = f (Climb 1) ts >>= λ a. choice_part f a.0 a.1 (after signs.Question a.1)
  step f (Climb n) ts = f AUnary ts >>= λ a. f (Loop n a.0) a.1
  step f (Loop n a) ts = loop_part f n a ts (operator_at n ts)
  step f AUnary ts = unary_part f ts (after signs.Bang ts)
  step f APostfix ts = f APrimary ts >>= λ a. f (Suffixes a.0) a.1
  step f (Suffixes a) ts = suffixes_part f a ts
  step f APrimary ts = primary_part f ts
  step f (UpTo s) ts = up_to_part f s ts (after s ts)
  step f SomeExprs ts = f AnExpr ts >>= λ b. f (MoreExprs ((seen_item limit) ((cap limit) (Items none)) b.0)) b.1
  step f (MoreExprs a) ts = more_exprs_part f a ts (after signs.Comma ts)
  step f ToBrace ts = to_brace_part f ts (after signs.RightBrace ts)
  step f (APair a) ts = pair_part f a (key_at ts)
  step f (MorePairs a) ts = more_pairs_part f a ts (after signs.Comma ts)

  -- reading in at most so many steps inside one another
  unfoldable pub read : ℕ → Reader
  read zero job ts = None
  read (suc n) job ts = step (read n) job ts

  unfoldable pub read_of : Reader
  read_of job ts = read (need job ts) job ts
