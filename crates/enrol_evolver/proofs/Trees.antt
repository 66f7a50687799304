-- The tree of a text is the one that it has.
use Rattle.std.proofs.Common.{◌≡◌, ℕ, ◌<◌, false, List, Some, None, Ok, Err, inl, inr, refl, ap, subst}
use Rattle.jexl_lexer.specs.Answering.{FaultsAs}
use Rattle.jexl_lexer.specs.Lexing.{Lexes, BadChar, OpenText, BigNumber, Decimal, TooManyTokens}
use Rattle.jexl_lexer.specs.declared.fault.LexFault.{LexFault}
use Rattle.jexl_lexer.specs.declared.fault.LexFault.TheVariants as lexing
use Rattle.jexl_lexer.specs.declared.token.Token.{Token}
use Rattle.jexl_lexer.proofs.Uniqueness.{never_both}
use Rattle.jexl_parser.specs.declared.node.TheConstants.{MAX_HEIGHT}
use Rattle.jexl_parser.specs.Kinds.{kinds_of}
use Rattle.jexl_parser.specs.Parses.{Parses}
use Rattle.jexl_parser.specs.Tree.{Tree, height}
use Rattle.jexl_parser.specs.View.{view}
use Rattle.jexl_parser.specs.declared.expression.Expr.{Expr}
use Rattle.jexl_parser.specs.declared.fault.ParseFault.{ParseFault}
use Rattle.jexl_parser.specs.declared.fault.ParseFault.TheVariants as parsing
use Rattle.jexl_parser.proofs.OneTree.{one_tree}
use Rattle.jexl_eval.specs.Expressions.{IsTree, Reading, tree_in}
use Rattle.enrol_evolver.specs.Expressions.{lexing_wants_memory, parsing_wants_memory}
use Rattle.enrol_evolver.specs.Targeting.{tree_of}
use Rattle.jexl_eval.proofs.Readable.{over, spelled_by, is_tree, readable, one_tree_of}

found_in : (text : List ℕ) (t : Tree) (r : Reading text) → IsTree text t → tree_in r ≡ Some t
found_in text t (inl f) is = ap (λ (u : Tree). Some u) (one_tree_of text f.0 t f.1 is)
found_in text t (inr none) is = absurd (none t is)

none_in : (text : List ℕ) (r : Reading text) → ((t : Tree) → IsTree text t → ⊥) → tree_in r ≡ None
none_in text (inl f) none = absurd (none f.0 f.1)
none_in text (inr n) none = refl

is_in : (text : List ℕ) (t : Tree) (r : Reading text) → tree_in r ≡ Some t → IsTree text t
is_in text t (inl f) e = let same : f.0 ≡ t = cc in subst (IsTree text) same f.1
is_in text t (inr none) e = absurd cc

pub has_tree : (text : List ℕ) (t : Tree) → IsTree text t → tree_of text ≡ Some t
unfolding tree_of
has_tree text t is = found_in text t (readable text) is

pub has_none : (text : List ℕ) → ((t : Tree) → IsTree text t → ⊥) → tree_of text ≡ None
unfolding tree_of
has_none text none = none_in text (readable text) none

pub tree_is : (text : List ℕ) (t : Tree) → tree_of text ≡ Some t → IsTree text t
unfolding tree_of
tree_is text t e = is_in text t (readable text) e

-- ---- what lexing and parsing answered

pub has_not_lexed : (text : List ℕ) (e : LexFault) → FaultsAs text e → lexing_wants_memory e ≡ false → tree_of text ≡ None
has_not_lexed text (lexing.BadChar p) f other = has_none text (λ t is. never_both text is.tokens BadChar p is.lexed f)
has_not_lexed text (lexing.OpenText p) f other = has_none text (λ t is. never_both text is.tokens OpenText p is.lexed f)
has_not_lexed text (lexing.BigNumber p) f other = has_none text (λ t is. never_both text is.tokens BigNumber p is.lexed f)
has_not_lexed text (lexing.Decimal p) f other = has_none text (λ t is. never_both text is.tokens Decimal p is.lexed f)
has_not_lexed text (lexing.TooManyTokens p) f other = has_none text (λ t is. never_both text is.tokens TooManyTokens p is.lexed f)
has_not_lexed text lexing.OutOfMemory f other = absurd cc

pub has_parsed : (text : List ℕ) (ts : List Token) (e : Expr) → Lexes 0 0 text ts → Parses (kinds_of ts) (Ok e) → tree_of text ≡ Some (view e.root)
has_parsed text ts e l p = has_tree text (view e.root) (is_tree text ts (view e.root) l p)

pub has_not_parsed : (text : List ℕ) (ts : List Token) (e : ParseFault) → Lexes 0 0 text ts → Parses (kinds_of ts) (Err e) → parsing_wants_memory e ≡ false → tree_of text ≡ None
has_not_parsed text ts parsing.TooDeep l p other = has_none text (λ t is. (spelled_by text ts t l is).0 p)
has_not_parsed text ts parsing.Unexpected l p other = has_none text (λ t is. p.1 t (spelled_by text ts t l is).1)
has_not_parsed text ts parsing.TooTall l p other =
    has_none text (λ t is. let s = spelled_by text ts t l is in over (height t) s.2 (subst (λ (u : Tree). MAX_HEIGHT < height u) (one_tree (kinds_of ts) p.1.0 t p.1.1 s.1) p.1.2))
has_not_parsed text ts parsing.OutOfMemory l p other = absurd cc
