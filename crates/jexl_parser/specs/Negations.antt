-- Any number of `!` before a tree.
use Rattle.std.specs.Prelude.{ℕ, zero, suc, List, option_map}
use Rattle.jexl_lexer.specs.declared.token.TokenKind.{TokenKind}
use Rattle.jexl_parser.specs.declared.node.TheConstants.{MAX_HEIGHT}
use Rattle.jexl_parser.specs.Seen.{Seen, seen_not}
use Rattle.jexl_parser.specs.Reading.{Read}

-- so many `!` before what is kept of a tree
abbrev pub nots : ℕ → Seen → Seen
nots zero s = s
nots (suc n) s = nots n (seen_not MAX_HEIGHT s)

abbrev pub with_nots : ℕ → Seen × List TokenKind → Seen × List TokenKind
with_nots n x = (nots n x.0, x.1)

-- the same of what is read
abbrev pub read_with_nots : ℕ → Read → Read
read_with_nots n r = option_map (with_nots n) r
