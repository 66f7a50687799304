-- Which text is which expression.
use Rattle.std.specs.Prelude.{◌⊎◌, ◌≤◌, ℕ, List, Option, Some, None}
use Rattle.std.proofs.Common.{inl, inr}
use Rattle.jexl_lexer.specs.Lexing.{Lexes}
use Rattle.jexl_lexer.specs.declared.token.Token.{Token}
use Rattle.jexl_parser.specs.declared.node.TheConstants.{MAX_HEIGHT}
use Rattle.jexl_parser.specs.Depth.{IsShallow}
use Rattle.jexl_parser.specs.Grammar.{SpellsTree}
use Rattle.jexl_parser.specs.Kinds.{kinds_of}
use Rattle.jexl_parser.specs.Tree.{Tree, height}

-- the text has these tokens, and they spell this tree, within the limits of nesting and of height
pub record IsTree (text : List ℕ) (tree : Tree) : Type 0 where
  pub tokens : List Token
  pub lexed : Lexes 0 0 text tokens
  pub shallow : IsShallow (kinds_of tokens)
  pub spelled : SpellsTree (kinds_of tokens) tree
  pub low : height tree ≤ MAX_HEIGHT

-- a tree of the text, or that there is none
abbrev pub Reading : List ℕ → Type 0
Reading text = ((tree : Tree) × IsTree text tree) ⊎ ((tree : Tree) → IsTree text tree → ⊥)

abbrev pub tree_in : {text : List ℕ} → Reading text → Option Tree
tree_in (inl found) = Some found.0
tree_in (inr none) = None
