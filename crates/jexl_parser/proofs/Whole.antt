-- What parsing answers, from what was read.
use Rattle.std.proofs.Common.{◌≡◌, true, false, List, [], ◌∷◌, Option, Some, None, Result, Ok, Err, refl, subst}
use Rattle.jexl_lexer.specs.declared.token.TokenKind.{TokenKind}
use Rattle.jexl_parser.specs.declared.node.TheConstants.{MAX_HEIGHT}
use Rattle.jexl_parser.specs.declared.fault.ParseFault.{ParseFault}
use Rattle.jexl_parser.specs.declared.fault.ParseFault.TheVariants as faults
use Rattle.jexl_parser.specs.declared.expression.Expr.{Expr}
use Rattle.jexl_parser.specs.Tree.{Tree}
use Rattle.jexl_parser.specs.View.{view}
use Rattle.jexl_parser.specs.Seen.{Seen}
use Rattle.jexl_parser.specs.Reading.{AnExpr, read_of}
use Rattle.jexl_parser.specs.Gives.{Fails}
use Rattle.jexl_parser.specs.Counting.{deep_from}
use Rattle.jexl_parser.specs.Parses.{Parses, IsWhole, WholeOf}
use Rattle.jexl_parser.proofs.OneTree.{none_there, none_left, none_closed, Found, found, found_small, found_tall}
use Rattle.jexl_parser.proofs.Counts.{too_deep, shallow}

pub parses_deep : (ts : List TokenKind) → deep_from 0 0 0 ts ≡ true → Parses ts (Err faults.TooDeep)
parses_deep ts h = too_deep ts h

pub parses_fails : (ts : List TokenKind) (e : ParseFault) → deep_from 0 0 0 ts ≡ false → Fails e (read_of MAX_HEIGHT AnExpr ts) → Parses ts (Err e)
parses_fails ts faults.OutOfMemory d h = tt
parses_fails ts faults.Unexpected d h = (shallow ts d, none_there ts h)
parses_fails ts faults.TooDeep d h = absurd h
parses_fails ts faults.TooTall d h = absurd h

pub parses_left : (ts : List TokenKind) (x : Seen) (rest : List TokenKind) (k : TokenKind) (ks : List TokenKind) → deep_from 0 0 0 ts ≡ false → read_of MAX_HEIGHT AnExpr ts ≡ Some (x, rest) → rest ≡ k ∷ ks → Parses ts (Err faults.Unexpected)
parses_left ts x rest k ks d r e = (shallow ts d, none_left ts x k ks (subst (λ (w : List TokenKind). read_of MAX_HEIGHT AnExpr ts ≡ Some (x, w)) e r))

pub parses_open : (ts : List TokenKind) (x : Seen) (rest : List TokenKind) → deep_from 0 0 0 ts ≡ false → read_of MAX_HEIGHT AnExpr ts ≡ Some (x, rest) → x.relative ≡ true → Parses ts (Err faults.Unexpected)
parses_open ts x rest d r e = (shallow ts d, none_closed ts x rest r e)

found_rest : (ts : List TokenKind) (x : Seen) (rest : List TokenKind) → read_of MAX_HEIGHT AnExpr ts ≡ Some (x, rest) → rest ≡ [] → x.relative ≡ false → Found ts x
found_rest ts x rest r e n = found ts x (subst (λ (w : List TokenKind). read_of MAX_HEIGHT AnExpr ts ≡ Some (x, w)) e r) n

is_whole_by : (ts : List TokenKind) (x : Seen) (o : Option Tree) → Found ts x → x.tree ≡ o → IsWhole o
is_whole_by ts x None f e = tt
is_whole_by ts x (Some u) f e = let s = found_small ts x u f e in (s.0.closed, s.1)

pub is_whole : (ts : List TokenKind) (x : Seen) (rest : List TokenKind) → read_of MAX_HEIGHT AnExpr ts ≡ Some (x, rest) → rest ≡ [] → x.relative ≡ false → IsWhole x.tree
is_whole ts x rest r e n = is_whole_by ts x x.tree (found_rest ts x rest r e n) refl

whole_by : (ts : List TokenKind) (x : Seen) (r : Result Expr ParseFault) → deep_from 0 0 0 ts ≡ false → Found ts x → WholeOf x.tree r → Parses ts r
whole_by ts x (Ok e) d f h = let s = found_small ts x (view e.root) f h in (shallow ts d, s.0, s.1)
whole_by ts x (Err faults.TooTall) d f h = (shallow ts d, (f.tree, f.spells, found_tall ts x f h))
whole_by ts x (Err faults.TooDeep) d f h = absurd h
whole_by ts x (Err faults.Unexpected) d f h = absurd h
whole_by ts x (Err faults.OutOfMemory) d f h = tt

pub parses_whole : (ts : List TokenKind) (x : Seen) (rest : List TokenKind) (r : Result Expr ParseFault) → deep_from 0 0 0 ts ≡ false → read_of MAX_HEIGHT AnExpr ts ≡ Some (x, rest) → rest ≡ [] → x.relative ≡ false → WholeOf x.tree r → Parses ts r
parses_whole ts x rest r d e n c h = whole_by ts x r d (found_rest ts x rest e n c) h
