-- Each text has one tree, or none: how it is found which.
use Rattle.std.proofs.Common.{◌≡◌, ℕ, ◌<◌, ◌≤◌, Bool, true, false, List, [], ◌∷◌, Option, Some, None, ◌⊎◌, inl, inr, refl, subst, arith}
use Rattle.jexl_lexer.specs.Lexing.{Fault, Lexes, Faults}
use Rattle.jexl_lexer.specs.declared.token.Token.{Token}
use Rattle.jexl_lexer.specs.declared.token.TokenKind.{TokenKind}
use Rattle.jexl_lexer.proofs.Uniqueness.{one_list, never_both, always_one}
use Rattle.jexl_parser.specs.declared.node.TheConstants.{MAX_HEIGHT}
use Rattle.jexl_parser.specs.Counting.{deep_from}
use Rattle.jexl_parser.specs.Depth.{IsShallow}
use Rattle.jexl_parser.specs.Grammar.{SpellsTree}
use Rattle.jexl_parser.specs.Kinds.{kinds_of}
use Rattle.jexl_parser.specs.Reading.{AnExpr, read_of}
use Rattle.jexl_parser.specs.Seen.{Seen}
use Rattle.jexl_parser.specs.Tree.{Tree, height}
use Rattle.jexl_parser.proofs.Counts.{too_deep, shallow}
use Rattle.jexl_parser.proofs.OneTree.{one_tree, none_there, none_left, none_closed, Found, found, found_small, found_tall}
use Rattle.jexl_eval.specs.Expressions.{IsTree, Reading}

-- a tree that tokens spell within the limits
abbrev pub Spelled : List TokenKind → Tree → Type 0
Spelled ks t = IsShallow ks × SpellsTree ks t × (height t ≤ MAX_HEIGHT)

abbrev Spelling : List TokenKind → Type 0
Spelling ks = ((t : Tree) × Spelled ks t) ⊎ ((t : Tree) → Spelled ks t → ⊥)

pub over : (n : ℕ) → n ≤ MAX_HEIGHT → MAX_HEIGHT < n → ⊥
over n most more = absurd (omega arith)

kept : (ks : List TokenKind) (x : Seen) (o : Option Tree) → deep_from 0 0 0 ks ≡ false → Found ks x → x.tree ≡ o → Spelling ks
kept ks x (Some u) e f k = let s = found_small ks x u f k in inl (u, (shallow ks e, s.0, s.1))
kept ks x None e f k = inr (λ t s. over (height t) s.2 (subst (λ (u : Tree). MAX_HEIGHT < height u) (one_tree ks f.tree t f.spells s.1) (found_tall ks x f k)))

closed : (ks : List TokenKind) (x : Seen) (b : Bool) → deep_from 0 0 0 ks ≡ false → read_of MAX_HEIGHT AnExpr ks ≡ Some (x, []) → x.relative ≡ b → Spelling ks
closed ks x true e r c = inr (λ t s. none_closed ks x [] r c t s.1)
closed ks x false e r c = kept ks x x.tree e (found ks x r c) refl

by_rest : (ks : List TokenKind) (x : Seen) (rest : List TokenKind) → deep_from 0 0 0 ks ≡ false → read_of MAX_HEIGHT AnExpr ks ≡ Some (x, rest) → Spelling ks
by_rest ks x [] e r = closed ks x x.relative e r refl
by_rest ks x (l ∷ ls) e r = inr (λ t s. none_left ks x l ls r t s.1)

by_read : (ks : List TokenKind) (o : Option (Seen × List TokenKind)) → deep_from 0 0 0 ks ≡ false → read_of MAX_HEIGHT AnExpr ks ≡ o → Spelling ks
by_read ks None e r = inr (λ t s. none_there ks r t s.1)
by_read ks (Some p) e r = by_rest ks p.0 p.1 e r

by_depth : (ks : List TokenKind) (b : Bool) → deep_from 0 0 0 ks ≡ b → Spelling ks
by_depth ks true e = inr (λ t s. s.0 (too_deep ks e))
by_depth ks false e = by_read ks (read_of MAX_HEIGHT AnExpr ks) e refl

-- ---- by the one list of tokens

pub spelled_by : (text : List ℕ) (ts : List Token) (t : Tree) → Lexes 0 0 text ts → IsTree text t → Spelled (kinds_of ts) t
spelled_by text ts t lexed is = subst (λ (us : List Token). Spelled (kinds_of us) t) (one_list text is.tokens ts is.lexed lexed) (is.shallow, is.spelled, is.low)

pub is_tree : (text : List ℕ) (ts : List Token) (t : Tree) → Lexes 0 0 text ts → Spelled (kinds_of ts) t → IsTree text t
is_tree text ts t lexed s = record { tokens = ts; lexed = lexed; shallow = s.0; spelled = s.1; low = s.2 }

by_spelling : (text : List ℕ) (ts : List Token) → Lexes 0 0 text ts → Spelling (kinds_of ts) → Reading text
by_spelling text ts lexed (inl s) = inl (s.0, is_tree text ts s.0 lexed s.1)
by_spelling text ts lexed (inr none) = inr (λ t is. none t (spelled_by text ts t lexed is))

by_tokens : (text : List ℕ) → ((ts : List Token) × Lexes 0 0 text ts) ⊎ ((f : Fault) × (at : ℕ) × Faults 0 0 text f at) → Reading text
by_tokens text (inl l) = by_spelling text l.0 l.1 (by_depth (kinds_of l.0) (deep_from 0 0 0 (kinds_of l.0)) refl)
by_tokens text (inr f) = inr (λ t is. never_both text is.tokens f.0 f.1 is.lexed f.2)

pub readable : (text : List ℕ) → Reading text
readable text = by_tokens text (always_one text)

pub one_tree_of : (text : List ℕ) (t u : Tree) → IsTree text t → IsTree text u → t ≡ u
one_tree_of text t u is also = one_tree (kinds_of is.tokens) t u is.spelled (spelled_by text is.tokens u is.lexed also).1
