-- What parsing answers. The lines exclude one another, and a list of tokens has at most one tree, so each answer but want of memory comes exactly
-- where its line holds.
use Rattle.std.specs.Prelude.{◌≡◌, ◌<◌, ◌≤◌, false, List, Option, Some, None, Result, Ok, Err}
use Rattle.jexl_lexer.specs.declared.token.TokenKind.{TokenKind}
use Rattle.jexl_parser.specs.declared.node.TheConstants.{MAX_HEIGHT}
use Rattle.jexl_parser.specs.declared.fault.ParseFault.{ParseFault}
use Rattle.jexl_parser.specs.declared.fault.ParseFault.TheVariants as faults
use Rattle.jexl_parser.specs.declared.expression.Expr.{Expr}
use Rattle.jexl_parser.specs.Depth.{IsTooDeep, IsShallow}
use Rattle.jexl_parser.specs.Tree.{Tree, height, has_relative}
use Rattle.jexl_parser.specs.Grammar.{SpellsTree}
use Rattle.jexl_parser.specs.View.{view}

-- the answer for these tokens, for each of the answers
abbrev pub Parses : List TokenKind → Result Expr ParseFault → Type 0
Parses ts (Ok e) = IsShallow ts × SpellsTree ts (view e.root) × (height (view e.root) ≤ MAX_HEIGHT)
Parses ts (Err faults.TooDeep) = IsTooDeep ts
Parses ts (Err faults.Unexpected) = IsShallow ts × ((t : Tree) → SpellsTree ts t → ⊥)
Parses ts (Err faults.TooTall) = IsShallow ts × ((t : Tree) × SpellsTree ts t × (MAX_HEIGHT < height t))
Parses ts (Err faults.OutOfMemory) = Unit {0}

-- what whole asks of the tree that was kept, and answers for it
abbrev pub IsWhole : Option Tree → Type 0
IsWhole None = Unit {0}
IsWhole (Some t) = (has_relative t ≡ false) × (height t ≤ MAX_HEIGHT)

abbrev pub WholeOf : Option Tree → Result Expr ParseFault → Type 0
WholeOf tree (Ok e) = tree ≡ Some (view e.root)
WholeOf tree (Err faults.TooTall) = tree ≡ None
WholeOf tree (Err faults.TooDeep) = ⊥
WholeOf tree (Err faults.Unexpected) = ⊥
WholeOf tree (Err faults.OutOfMemory) = ⊥
