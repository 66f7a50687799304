-- A list of tokens has at most one tree, and reading tells whether it has one.
use Rattle.std.proofs.Common.{◌≡◌, ℕ, ◌<◌, ◌≤◌, Bool, true, false, cond, List, [], ◌∷◌, Option, Some, None, max, sym, ap, subst, ◌∙◌, arith}
use Rattle.std.proofs.lemmas.List.{append-nil}
use Rattle.std.proofs.lemmas.Bool.{le-leb}
use Rattle.jexl_lexer.specs.declared.token.TokenKind.{TokenKind}
use Rattle.jexl_parser.specs.declared.node.TheConstants.{MAX_HEIGHT}
use Rattle.jexl_parser.specs.Tree.{Tree, height, has_relative}
use Rattle.jexl_parser.specs.Seen.{Seen, fit, cap}
use Rattle.jexl_parser.specs.Grammar.{Expr, Spells, SpellsTree}
use Rattle.jexl_parser.specs.Reading.{AnExpr, read_of}
use Rattle.jexl_parser.specs.Laws.{OneTree}
use Rattle.jexl_parser.proofs.Tools.{some_is}
use Rattle.jexl_parser.proofs.Seen.{fit_is, fit_not}
use Rattle.jexl_parser.proofs.Agree.{read_sound}
use Rattle.jexl_parser.proofs.Complete.{complete}

pub read_all : (limit : ℕ) (ts : List TokenKind) (t : Tree) → Spells Expr ts t → read_of limit AnExpr ts ≡ Some (cap limit t, [])
read_all limit ts t d = ap (λ (w : List TokenKind). read_of limit AnExpr w) (sym (append-nil ts)) ∙ complete limit d [] tt

fits : (limit : ℕ) (t : Tree) → height t ≤ limit → fit limit t ≡ Some t
fits limit t le = ap (λ (b : Bool). cond b (Some t) None) (le-leb (height t) limit le)

abbrev some_tree : Tree → Option Tree
some_tree t = Some t

-- both trees are read where the limit lets them fit
pub one_spelled : (ts : List TokenKind) (t u : Tree) → Spells Expr ts t → Spells Expr ts u → t ≡ u
one_spelled ts t u d e =
    let limit = max (height t) (height u) in
    let x : Seen × List TokenKind = (cap limit t, []) in
    let y : Seen × List TokenKind = (cap limit u, []) in
    let same : x ≡ y = some_is x y (sym (read_all limit ts t d) ∙ read_all limit ts u e) in
    let both : some_tree t ≡ some_tree u = sym (fits limit t (omega arith)) ∙ (ap (λ (p : Seen × List TokenKind). p.0.tree) same ∙ fits limit u (omega arith)) in
    cc

pub one_tree : OneTree
one_tree ts t u d e = one_spelled ts t u d.spelled e.spelled

-- where nothing is read there is no tree
pub none_there : (ts : List TokenKind) → read_of MAX_HEIGHT AnExpr ts ≡ None → (t : Tree) → SpellsTree ts t → ⊥
none_there ts r t d = let e = read_all MAX_HEIGHT ts t d.spelled in cc

-- nor where tokens are left, or a relative name stands outside
pub none_left : (ts : List TokenKind) (x : Seen) (k : TokenKind) (ks : List TokenKind) → read_of MAX_HEIGHT AnExpr ts ≡ Some (x, k ∷ ks) → (t : Tree) → SpellsTree ts t → ⊥
none_left ts x k ks r t d =
    let p : Seen × List TokenKind = (cap MAX_HEIGHT t, []) in
    let q : Seen × List TokenKind = (x, k ∷ ks) in
    let same : p ≡ q = some_is p q (sym (read_all MAX_HEIGHT ts t d.spelled) ∙ r) in
    let rests : [] ≡ k ∷ ks = ap (λ (z : Seen × List TokenKind). z.1) same in
    cc

pub none_closed : (ts : List TokenKind) (x : Seen) (rest : List TokenKind) → read_of MAX_HEIGHT AnExpr ts ≡ Some (x, rest) → x.relative ≡ true → (t : Tree) → SpellsTree ts t → ⊥
none_closed ts x rest r open_name t d =
    let p : Seen × List TokenKind = (cap MAX_HEIGHT t, []) in
    let q : Seen × List TokenKind = (x, rest) in
    let same : p ≡ q = some_is p q (sym (read_all MAX_HEIGHT ts t d.spelled) ∙ r) in
    let names : has_relative t ≡ x.relative = ap (λ (z : Seen × List TokenKind). z.0.relative) same in
    let closed = d.closed in
    cc

-- what was read to the end
pub record Found (ts : List TokenKind) (x : Seen) : Type 0 where
  pub tree : Tree
  pub spells : SpellsTree ts tree
  pub kept : x ≡ cap MAX_HEIGHT tree

pub found : (ts : List TokenKind) (x : Seen) → read_of MAX_HEIGHT AnExpr ts ≡ Some (x, []) → x.relative ≡ false → Found ts x
found ts x r no_names =
    let t = read_sound MAX_HEIGHT AnExpr ts (x, []) r in
    let names : has_relative t.tree ≡ false = sym (ap (λ (z : Seen). z.relative) t.kept) ∙ no_names in
    record { tree = t.tree; spells = record { spelled = subst (λ (w : List TokenKind). Spells Expr w t.tree) (sym (t.parts ∙ append-nil t.used)) t.spelled; closed = names }; kept = t.kept }

-- where the tree was kept it is that tree
pub found_small : (ts : List TokenKind) (x : Seen) (u : Tree) → Found ts x → x.tree ≡ Some u → SpellsTree ts u × (height u ≤ MAX_HEIGHT)
found_small ts x u f e =
    let same = fit_is MAX_HEIGHT f.tree u (sym (ap (λ (z : Seen). z.tree) f.kept) ∙ e) in
    (subst (λ (v : Tree). SpellsTree ts v) same.0 f.spells, same.1)

pub found_tall : (ts : List TokenKind) (x : Seen) (f : Found ts x) → x.tree ≡ None → MAX_HEIGHT < height f.tree
found_tall ts x f e = fit_not MAX_HEIGHT f.tree (sym (ap (λ (z : Seen). z.tree) f.kept) ∙ e)
