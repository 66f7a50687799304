-- What the functions of the parser read behind the part of a tree that is read already.
use Rattle.std.specs.Prelude.{ℕ, List, [], ◌∷◌, Option, Some, None}
use Rattle.jexl_lexer.specs.declared.token.Sign.{Sign}
use Rattle.jexl_lexer.specs.declared.token.Sign.TheVariants as signs
use Rattle.jexl_lexer.specs.declared.token.TokenKind.{TokenKind}
use Rattle.jexl_parser.specs.declared.node.TheConstants.{MAX_HEIGHT}
use Rattle.jexl_parser.specs.declared.front.Suffix.{Suffix}
use Rattle.jexl_parser.specs.declared.front.Suffix.TheVariants as suffixes
use Rattle.jexl_parser.specs.Tree.{Items, none}
use Rattle.jexl_parser.specs.Seen.{Seen, cap}
use Rattle.jexl_parser.specs.Words.{word_of}
use Rattle.jexl_parser.specs.Reading.{◌>>=◌, Read, Reader, AnExpr, UpTo, after, name_at, plain_at, suffix_of, opening_of, or_part, member_part, square_part, transform_part, opening_part, word_part, read_of}

abbrev pub R : Reader
R = read_of MAX_HEIGHT

-- a choice, behind its condition and the `?`
abbrev pub choice_of : Seen → List TokenKind → Read
choice_of a ts = or_part MAX_HEIGHT R a ts (after signs.Colon ts)

abbrev pub if_suffix : Suffix → List TokenKind → Option (Suffix × List TokenKind)
if_suffix suffixes.Member ks = Some (suffixes.Member, ks)
if_suffix suffixes.Bracket ks = Some (suffixes.Bracket, ks)
if_suffix suffixes.Transform ks = Some (suffixes.Transform, ks)
if_suffix suffixes.None ks = None

-- the suffix that begins at the front
abbrev pub suffix_at : List TokenKind → Option (Suffix × List TokenKind)
suffix_at [] = None
suffix_at (k ∷ ks) = if_suffix (suffix_of k) ks

abbrev pub member_of : Seen → List TokenKind → Read
member_of a ts = member_part MAX_HEIGHT R a (name_at ts)

abbrev pub bracket_of : Seen → List TokenKind → Read
bracket_of a ts = R AnExpr ts >>= λ b. square_part MAX_HEIGHT R a b.0 (after signs.RightSquare b.1)

abbrev pub transform_of : Seen → List TokenKind → Read
transform_of a ts = transform_part MAX_HEIGHT R a (plain_at ts)

-- a postfix, behind its subject and the sign of the suffix
abbrev pub suffix_read : Seen → Suffix → List TokenKind → Read
suffix_read a suffixes.Member ts = member_of a ts
suffix_read a suffixes.Bracket ts = bracket_of a ts
suffix_read a suffixes.Transform ts = transform_of a ts
suffix_read a suffixes.None ts = None

abbrev pub arguments_part : List TokenKind → Option (List TokenKind) → Read
arguments_part ts None = Some (cap MAX_HEIGHT (Items none), ts)
arguments_part ts (Some us) = R (UpTo signs.RightRound) us

-- the arguments of a transform, behind its name
abbrev pub arguments_of : List TokenKind → Read
arguments_of ts = arguments_part ts (after signs.LeftRound ts)

-- a primary, behind its first sign
abbrev pub opened_by : Sign → List TokenKind → Read
opened_by s ts = opening_part MAX_HEIGHT R ts (opening_of s)

-- a primary that is a word
abbrev pub word_read : List ℕ → List TokenKind → Read
word_read n ts = word_part MAX_HEIGHT n ts (word_of n)
