-- What is read is spelled by the tokens that were taken.
use Rattle.std.specs.Prelude.{neg_ℤ}
use Rattle.std.proofs.Common.{◌≡◌, ℕ, zero, suc, ◌+◌, ◌-◌, ◌<◌, ◌≤◌, Bool, true, false, List, [], ◌∷◌, ◌++◌, Option, Some, None, refl, sym, ap, subst, ◌∙◌, append_assoc, arith}
use Rattle.jexl_lexer.specs.declared.token.Sign.{Sign}
use Rattle.jexl_lexer.specs.declared.token.Sign.TheVariants as signs
use Rattle.jexl_lexer.specs.declared.token.TokenKind.{TokenKind}
use Rattle.jexl_lexer.specs.declared.token.TokenKind.TheVariants as kinds
use Rattle.jexl_parser.specs.declared.node.BinarySign.{BinarySign}
use Rattle.jexl_parser.specs.declared.front.Word.{Word}
use Rattle.jexl_parser.specs.declared.front.Word.TheVariants as words
use Rattle.jexl_parser.specs.declared.front.Suffix.{Suffix}
use Rattle.jexl_parser.specs.declared.front.Suffix.TheVariants as suffixes
use Rattle.jexl_parser.specs.declared.front.Opening.{Opening}
use Rattle.jexl_parser.specs.declared.front.Opening.TheVariants as openings
use Rattle.jexl_parser.specs.Words.{word_of}
use Rattle.jexl_parser.specs.Tree.{Null, Truth, Whole, Quote, Tree, Literal, Named, Relative, Items, Members, Member, Index, Filter, Transform, Not, Binary, Choose, OrElse, Trees, none, one_more, Pairs, no_pair, pair, add, add_pair, has_relative}
use Rattle.jexl_parser.specs.Seen.{Seen, cap, seen_not, seen_member, seen_bracket, seen_binary, seen_or_else, seen_choose, seen_args, seen_item, seen_pair}
use Rattle.jexl_parser.proofs.Seen.{kept_not, kept_member, kept_binary, kept_or_else, kept_choose, kept_index, kept_filter, kept_args, kept_item, kept_pair}
use Rattle.jexl_parser.specs.Grammar.{level_of, key_of, Symbol, Expr, Level, Unary, Postfix, Primary, Args, Exprs, MemberList, PairList, sign, Spells, plain, choose, or_else, operation, tighter, tightest, negation, positive, primary, member, index, filter, transform, transform_with, number, negative, quoted, truth, falsity, null, name, relative, group, items, object, no_args, args, one_expr, next_expr, no_members, members, one_pair, next_pair}
use Rattle.jexl_parser.specs.Reading.{Read, Job, AnExpr, Climb, Loop, AUnary, APostfix, Suffixes, APrimary, UpTo, SomeExprs, MoreExprs, ToBrace, APair, MorePairs, Reader, after, name_at, plain_at, number_at, key_at, operator_at, suffix_of, opening_of, colon_part, or_part, choice_part, loop_part, unary_part, member_part, square_part, args_part, transform_part, suffix_part, suffixes_part, closed_part, opening_part, word_part, primary_part, up_to_part, more_exprs_part, to_brace_part, value_part, pair_part, more_pairs_part, step, read}
use Rattle.jexl_parser.proofs.Tools.{bind_ok, some_is, after_is, name_is, number_is, plain_is, key_is, operator_is, operator_below, member_suffix_is, bracket_suffix_is, transform_suffix_is, minus_opening_is, dot_opening_is, round_opening_is, square_opening_is, brace_opening_is, no_operator_above, level_at_most}

-- what stands before a pair
pub data Before : List TokenKind → Tree → Type 0 where
  nothing : Before [] (Members no_pair)
  a_comma : {us : List TokenKind} {a : Tree} → Spells PairList us a → Before (us ++ (sign signs.Comma ∷ [])) a

-- a looser level from a tighter one
loosen_by : (m j : ℕ) (us : List TokenKind) (a : Tree) → Spells (Level (m + j)) us a → Spells (Level j) us a
loosen_by zero j us a d = let e : zero + j ≡ j = omega arith in subst (λ (n : ℕ). Spells (Level n) us a) e d
loosen_by (suc m) j us a d = let e : suc m + j ≡ suc (m + j) = omega arith in loosen_by m j us a (tighter (subst (λ (n : ℕ). Spells (Level n) us a) e d))

pub loosen : (i j : ℕ) (us : List TokenKind) (a : Tree) → i ≤ j → Spells (Level j) us a → Spells (Level i) us a
loosen i j us a le d = loosen_by (j - i) i us a (let e : j ≡ (j - i) + i = omega arith in subst (λ (n : ℕ). Spells (Level n) us a) e d)

-- args and exprs spell lists, and pairs spell members
pub exprs_are : {us : List TokenKind} {a : Tree} → Spells Exprs us a → (ls : Trees) × (a ≡ Items ls)
exprs_are (one_expr {t = t} d) = (one_more t none, refl)
exprs_are (next_expr {ls = ls} {b = b} d e) = (add ls b, refl)

pub args_are : {us : List TokenKind} {a : Tree} → Spells Args us a → (ls : Trees) × (a ≡ Items ls)
args_are no_args = (none, refl)
args_are (args d) = exprs_are d

pub pairs_are : {us : List TokenKind} {a : Tree} → Spells PairList us a → (ps : Pairs) × (a ≡ Members ps)
pairs_are (one_pair {b = b} k n e d) = (pair n b no_pair, refl)
pairs_are (next_pair {ps = ps} {b = b} k n e d g) = (add_pair ps n b, refl)

-- where a tree fits if no path in it has more than `limit` nodes
module _ (limit : ℕ) where
  -- what is kept is of a tree that is spelled by what stands before the rest
  pub record Taken (s : Symbol) (ts : List TokenKind) (x : Seen) (rest : List TokenKind) : Type 0 where
    pub used : List TokenKind
    pub tree : Tree
    pub parts : ts ≡ used ++ rest
    pub spelled : Spells s used tree
    pub kept : x ≡ (cap limit) tree

  -- and the sign after it was taken
  pub record Closed (s : Symbol) (c : Sign) (ts : List TokenKind) (x : Seen) (rest : List TokenKind) : Type 0 where
    pub used : List TokenKind
    pub tree : Tree
    pub parts : ts ≡ used ++ (sign c ∷ rest)
    pub spelled : Spells s used tree
    pub kept : x ≡ (cap limit) tree

  abbrev pub Sound : Job → List TokenKind → Seen → List TokenKind → Type 0
  Sound AnExpr ts x rest = Taken Expr ts x rest
  Sound (Climb n) ts x rest = n ≤ 6 → Taken (Level n) ts x rest × (operator_at n rest ≡ None)
  Sound (Loop n s) ts x rest = (us : List TokenKind) (j : ℕ) (a : Tree) → s ≡ (cap limit) a → Spells (Level j) us a → n ≤ j → operator_at (suc j) ts ≡ None → Taken (Level n) (us ++ ts) x rest × (operator_at n rest ≡ None)
  Sound AUnary ts x rest = Taken Unary ts x rest
  Sound APostfix ts x rest = Taken Postfix ts x rest
  Sound (Suffixes s) ts x rest = (us : List TokenKind) (a : Tree) → s ≡ (cap limit) a → Spells Postfix us a → Taken Postfix (us ++ ts) x rest
  Sound APrimary ts x rest = Taken Primary ts x rest
  Sound (UpTo c) ts x rest = Closed Args c ts x rest
  Sound SomeExprs ts x rest = Taken Exprs ts x rest
  Sound (MoreExprs s) ts x rest = (us : List TokenKind) (a : Tree) → s ≡ (cap limit) a → Spells Exprs us a → Taken Exprs (us ++ ts) x rest
  Sound ToBrace ts x rest = Closed MemberList signs.RightBrace ts x rest
  Sound (APair s) ts x rest = (us : List TokenKind) (a : Tree) → s ≡ (cap limit) a → Before us a → Taken PairList (us ++ ts) x rest
  Sound (MorePairs s) ts x rest = (us : List TokenKind) (a : Tree) → s ≡ (cap limit) a → Spells PairList us a → Taken PairList (us ++ ts) x rest

  abbrev pub IsSound : Reader → Type 0
  IsSound f = (job : Job) (ts : List TokenKind) (x : Seen × List TokenKind) → f job ts ≡ Some x → Sound job ts x.0 x.1

  -- more tokens in front
  before : {s : Symbol} (us ts : List TokenKind) (x : Seen) (t : Tree) (rest used : List TokenKind) → ts ≡ used ++ rest → Spells s (us ++ used) t → x ≡ (cap limit) t → Taken s (us ++ ts) x rest
  before us ts x t rest used e d k = record { used = us ++ used; tree = t; parts = ap (λ (w : List TokenKind). us ++ w) e ∙ sym (append_assoc us used rest); spelled = d; kept = k }

  -- what is spelled and kept
  pub record Both (s : Symbol) (us : List TokenKind) (x : Seen) : Type 0 where
    pub tree : Tree
    pub spelled : Spells s us tree
    pub kept : x ≡ (cap limit) tree

  bracket_both : (us vs : List TokenKind) (s r : Seen) (a b : Tree) (q : Bool) → has_relative b ≡ q → s ≡ (cap limit) a → r ≡ (cap limit) b → Spells Postfix us a → Spells Expr vs b → Both Postfix (us ++ (sign signs.LeftSquare ∷ (vs ++ (sign signs.RightSquare ∷ [])))) ((seen_bracket limit) s r)
  bracket_both us vs s r a b true e ea eb da db = record { tree = Filter a b; spelled = filter da db e; kept = (kept_filter limit) s r a b e ea eb }
  bracket_both us vs s r a b false e ea eb da db = record { tree = Index a b; spelled = index da db e; kept = (kept_index limit) s r a b e ea eb }

  item_both : (us vs : List TokenKind) (s r : Seen) (a b : Tree) → s ≡ (cap limit) a → r ≡ (cap limit) b → Spells Exprs us a → Spells Expr vs b → Both Exprs (us ++ (sign signs.Comma ∷ vs)) ((seen_item limit) s r)
  item_both us vs s r a b ea eb d e =
      let l = exprs_are d in
      record { tree = Items (add l.0 b); spelled = next_expr (subst (λ (t : Tree). Spells Exprs us t) l.1 d) e; kept = (kept_item limit) s r l.0 b (ea ∙ ap (cap limit) l.1) eb }

  args_both : (us vs : List TokenKind) (s r : Seen) (a b : Tree) (n : List ℕ) → word_of n ≡ words.Plain → s ≡ (cap limit) a → r ≡ (cap limit) b → Spells Postfix us a → Spells Args vs b
      → Both Postfix (us ++ (sign signs.Bar ∷ kinds.Name n ∷ sign signs.LeftRound ∷ (vs ++ (sign signs.RightRound ∷ [])))) ((seen_args limit) s n r)
  args_both us vs s r a b n p ea eb d e =
      let l = args_are e in
      record { tree = Transform a n l.0; spelled = transform_with n p d (subst (λ (t : Tree). Spells Args vs t) l.1 e); kept = (kept_args limit) s r a n l.0 ea (eb ∙ ap (cap limit) l.1) }

  pair_both : (us vs : List TokenKind) (s r : Seen) (a b : Tree) (k : TokenKind) (n : List ℕ) → key_of k ≡ Some n → s ≡ (cap limit) a → r ≡ (cap limit) b → Before us a → Spells Expr vs b → Both PairList (us ++ (k ∷ sign signs.Colon ∷ vs)) ((seen_pair limit) s n r)
  pair_both _ vs s r _ b k n m ea eb nothing e = record { tree = Members (pair n b no_pair); spelled = one_pair k n m e; kept = (kept_pair limit) s r no_pair n b ea eb }
  pair_both _ vs s r _ b k n m ea eb (a_comma {us = us} {a = a} d) e =
      let l = pairs_are d in
      let comma = sign signs.Comma in
      let inner = k ∷ sign signs.Colon ∷ vs in
      record {
        tree = Members (add_pair l.0 n b);
        spelled = subst (λ (w : List TokenKind). Spells PairList w (Members (add_pair l.0 n b))) (sym (append_assoc us (comma ∷ []) inner)) (next_pair k n m (subst (λ (t : Tree). Spells PairList us t) l.1 d) e);
        kept = (kept_pair limit) s r l.0 n b (ea ∙ ap (cap limit) l.1) eb;
      }

  abbrev some_read : Seen → List TokenKind → Read
  some_read s ks = Some (s, ks)

  one_token : (k : TokenKind) (ks : List TokenKind) (t : Tree) (x : Seen × List TokenKind) → Spells Primary (k ∷ []) t → some_read ((cap limit) t) ks ≡ Some x → Taken Primary (k ∷ ks) x.0 x.1
  one_token k ks t x d r =
      subst (λ (y : Seen × List TokenKind). Taken Primary (k ∷ ks) y.0 y.1) (some_is ((cap limit) t, ks) x r) (record { used = k ∷ []; tree = t; parts = refl; spelled = d; kept = refl })

  module _ (f : Reader) (h : IsSound f) where
    sound_colon : (us vs : List TokenKind) (s r : Seen) (a b : Tree) (ts : List TokenKind) → s ≡ (cap limit) a → r ≡ (cap limit) b → Spells (Level 1) us a → Spells Expr vs b → (o : Option (List TokenKind)) → after signs.Colon ts ≡ o → (x : Seen × List TokenKind) → (colon_part limit) f s r o ≡ Some x → Taken Expr (us ++ (sign signs.Question ∷ (vs ++ ts))) x.0 x.1
    sound_colon us vs s r a b ts ea eb da db None e x q = absurd cc
    sound_colon us vs s r a b ts ea eb da db (Some ws) e x q =
        let c = bind_ok (f AnExpr ws) (λ c. Some ((seen_choose limit) s r c.0, c.1)) x q in
        let t = h AnExpr ws c.0 c.1 in
        let colon = sign signs.Colon in
        let question = sign signs.Question in
        let e1 : ts ≡ (colon ∷ t.used) ++ c.0.1 = after_is signs.Colon ts ws e ∙ ap (λ (w : List TokenKind). colon ∷ w) t.parts in
        let e2 : question ∷ (vs ++ ts) ≡ (question ∷ (vs ++ (colon ∷ t.used))) ++ c.0.1 = ap (λ (w : List TokenKind). question ∷ w) (ap (λ (w : List TokenKind). vs ++ w) e1 ∙ sym (append_assoc vs (colon ∷ t.used) c.0.1)) in
        subst (λ (y : Seen × List TokenKind). Taken Expr (us ++ (question ∷ (vs ++ ts))) y.0 y.1) (some_is ((seen_choose limit) s r c.0.0, c.0.1) x c.2)
        (before us (question ∷ (vs ++ ts)) ((seen_choose limit) s r c.0.0) (Choose a b t.tree) c.0.1 (question ∷ (vs ++ (colon ∷ t.used))) e2 (choose da db t.spelled) ((kept_choose limit) s r c.0.0 a b t.tree ea eb t.kept))

    sound_or : (us : List TokenKind) (s : Seen) (a : Tree) (ts : List TokenKind) → s ≡ (cap limit) a → Spells (Level 1) us a → (o : Option (List TokenKind)) → after signs.Colon ts ≡ o → (x : Seen × List TokenKind) → (or_part limit) f s ts o ≡ Some x → Taken Expr (us ++ (sign signs.Question ∷ ts)) x.0 x.1
    sound_or us s a ts ea d None e x r =
        let b = bind_ok (f AnExpr ts) (λ b. (colon_part limit) f s b.0 (after signs.Colon b.1)) x r in
        let t = h AnExpr ts b.0 b.1 in
        let g = sound_colon us t.used s b.0.0 a t.tree b.0.1 ea t.kept d t.spelled (after signs.Colon b.0.1) refl x b.2 in
        subst (λ (w : List TokenKind). Taken Expr (us ++ (sign signs.Question ∷ w)) x.0 x.1) (sym t.parts) g
    sound_or us s a ts ea d (Some ws) e x r =
        let c = bind_ok (f AnExpr ws) (λ c. Some ((seen_or_else limit) s c.0, c.1)) x r in
        let t = h AnExpr ws c.0 c.1 in
        let colon = sign signs.Colon in
        let question = sign signs.Question in
        let e1 : question ∷ ts ≡ (question ∷ colon ∷ t.used) ++ c.0.1 = ap (λ (w : List TokenKind). question ∷ w) (after_is signs.Colon ts ws e ∙ ap (λ (w : List TokenKind). colon ∷ w) t.parts) in
        subst (λ (y : Seen × List TokenKind). Taken Expr (us ++ (question ∷ ts)) y.0 y.1) (some_is ((seen_or_else limit) s c.0.0, c.0.1) x c.2)
        (before us (question ∷ ts) ((seen_or_else limit) s c.0.0) (OrElse a t.tree) c.0.1 (question ∷ colon ∷ t.used) e1 (or_else d t.spelled) ((kept_or_else limit) s c.0.0 a t.tree ea t.kept))

    sound_choice : (us : List TokenKind) (s : Seen) (a : Tree) (ts : List TokenKind) → s ≡ (cap limit) a → Spells (Level 1) us a → (o : Option (List TokenKind)) → after signs.Question ts ≡ o → (x : Seen × List TokenKind) → (choice_part limit) f s ts o ≡ Some x → Taken Expr (us ++ ts) x.0 x.1
    sound_choice us s a ts ea d None e x r =
        subst (λ (y : Seen × List TokenKind). Taken Expr (us ++ ts) y.0 y.1) (some_is (s, ts) x r) (record { used = us; tree = a; parts = refl; spelled = plain d; kept = ea })
    sound_choice us s a ts ea d (Some vs) e x r =
        subst (λ (w : List TokenKind). Taken Expr (us ++ w) x.0 x.1) (sym (after_is signs.Question ts vs e)) (sound_or us s a vs ea d (after signs.Colon vs) refl x r)

    sound_loop : (n : ℕ) (s : Seen) (ts : List TokenKind) (o : Option (BinarySign × List TokenKind)) → operator_at n ts ≡ o → (x : Seen × List TokenKind) → (loop_part limit) f n s ts o ≡ Some x → Sound (Loop n s) ts x.0 x.1
    sound_loop n s ts None e x r us j a ea d le low =
        subst (λ (y : Seen × List TokenKind). Taken (Level n) (us ++ ts) y.0 y.1 × (operator_at n y.1 ≡ None)) (some_is (s, ts) x r)
        (record { used = us; tree = a; parts = refl; spelled = loosen n j us a le d; kept = ea }, e)
    sound_loop n s ts (Some o) e x r us j a ea d le low =
        let op = operator_is n ts o e in
        let l = level_of o.0 in
        let low' : operator_at (suc j) (op.token ∷ o.1) ≡ None = subst (λ (w : List TokenKind). operator_at (suc j) w ≡ None) op.front low in
        let under : l < suc j = operator_below (suc j) op.token o.1 o.0 op.means low' in
        let b = bind_ok (f (Climb (suc l)) o.1) (λ b. f (Loop n ((seen_binary limit) o.0 s b.0)) b.1) x r in
        let t = h (Climb (suc l)) o.1 b.0 b.1 (level_at_most o.0) in
        let whole = operation op.token o.0 op.means (loosen l j us a (omega arith) d) t.0.spelled in
        let g = h (Loop n ((seen_binary limit) o.0 s b.0.0)) b.0.1 x b.2 (us ++ (op.token ∷ t.0.used)) l (Binary o.0 a t.0.tree) ((kept_binary limit) o.0 s b.0.0 a t.0.tree ea t.0.kept) whole op.high t.1 in
        let e1 : (us ++ (op.token ∷ t.0.used)) ++ b.0.1 ≡ us ++ ts = append_assoc us (op.token ∷ t.0.used) b.0.1 ∙ ap (λ (w : List TokenKind). us ++ w) (ap (λ (w : List TokenKind). op.token ∷ w) (sym t.0.parts) ∙ sym op.front) in
        (subst (λ (w : List TokenKind). Taken (Level n) w x.0 x.1) e1 g.0, g.1)

    sound_unary : (ts : List TokenKind) (o : Option (List TokenKind)) → after signs.Bang ts ≡ o → (x : Seen × List TokenKind) → (unary_part limit) f ts o ≡ Some x → Taken Unary ts x.0 x.1
    sound_unary ts None e x r =
        let t = h APostfix ts x r in
        record { used = t.used; tree = t.tree; parts = t.parts; spelled = positive t.spelled; kept = t.kept }
    sound_unary ts (Some us) e x r =
        let a = bind_ok (f AUnary us) (λ a. Some ((seen_not limit) a.0, a.1)) x r in
        let t = h AUnary us a.0 a.1 in
        subst (λ (y : Seen × List TokenKind). Taken Unary ts y.0 y.1) (some_is ((seen_not limit) a.0.0, a.0.1) x a.2)
        (record { used = sign signs.Bang ∷ t.used; tree = Not t.tree; parts = after_is signs.Bang ts us e ∙ ap (λ (w : List TokenKind). sign signs.Bang ∷ w) t.parts; spelled = negation t.spelled; kept = (kept_not limit) a.0.0 t.tree t.kept })

    sound_square : (us vs : List TokenKind) (s r : Seen) (a b : Tree) (ts : List TokenKind) → s ≡ (cap limit) a → r ≡ (cap limit) b → Spells Postfix us a → Spells Expr vs b → (o : Option (List TokenKind)) → after signs.RightSquare ts ≡ o → (x : Seen × List TokenKind) → (square_part limit) f s r o ≡ Some x → Taken Postfix (us ++ (sign signs.LeftSquare ∷ (vs ++ ts))) x.0 x.1
    sound_square us vs s r a b ts ea eb da db None e x q = absurd cc
    sound_square us vs s r a b ts ea eb da db (Some ws) e x q =
        let left = sign signs.LeftSquare in
        let right = sign signs.RightSquare in
        let inner = left ∷ (vs ++ (right ∷ [])) in
        let both = bracket_both us vs s r a b (has_relative b) refl ea eb da db in
        let g = h (Suffixes ((seen_bracket limit) s r)) ws x q (us ++ inner) both.tree both.kept both.spelled in
        let e1 : (us ++ inner) ++ ws ≡ us ++ (left ∷ (vs ++ ts)) = append_assoc us inner ws ∙ ap (λ (w : List TokenKind). us ++ (left ∷ w)) (append_assoc vs (right ∷ []) ws ∙ ap (λ (w : List TokenKind). vs ++ w) (sym (after_is signs.RightSquare ts ws e))) in
        subst (λ (w : List TokenKind). Taken Postfix w x.0 x.1) e1 g

    sound_member : (us : List TokenKind) (s : Seen) (a : Tree) (ts : List TokenKind) → s ≡ (cap limit) a → Spells Postfix us a → (o : Option (List ℕ × List TokenKind)) → name_at ts ≡ o → (x : Seen × List TokenKind) → (member_part limit) f s o ≡ Some x → Taken Postfix (us ++ (sign signs.Dot ∷ ts)) x.0 x.1
    sound_member us s a ts ea d None e x r = absurd cc
    sound_member us s a ts ea d (Some n) e x r =
        let dot = sign signs.Dot in
        let inner = dot ∷ kinds.Name n.0 ∷ [] in
        let g = h (Suffixes ((seen_member limit) s n.0)) n.1 x r (us ++ inner) (Member a n.0) ((kept_member limit) s a n.0 ea) (member n.0 d) in
        let e1 : (us ++ inner) ++ n.1 ≡ us ++ (dot ∷ ts) = append_assoc us inner n.1 ∙ ap (λ (w : List TokenKind). us ++ (dot ∷ w)) (sym (name_is ts n e)) in
        subst (λ (w : List TokenKind). Taken Postfix w x.0 x.1) e1 g

    sound_args : (us : List TokenKind) (s : Seen) (a : Tree) (n : List ℕ) (ts : List TokenKind) → s ≡ (cap limit) a → word_of n ≡ words.Plain → Spells Postfix us a → (o : Option (List TokenKind)) → after signs.LeftRound ts ≡ o → (x : Seen × List TokenKind) → (args_part limit) f s n ts o ≡ Some x → Taken Postfix (us ++ (sign signs.Bar ∷ kinds.Name n ∷ ts)) x.0 x.1
    sound_args us s a n ts ea p d None e x r =
        let inner = sign signs.Bar ∷ kinds.Name n ∷ [] in
        let g = h (Suffixes ((seen_args limit) s n ((cap limit) (Items none)))) ts x r (us ++ inner) (Transform a n none) ((kept_args limit) s ((cap limit) (Items none)) a n none ea refl) (transform n p d) in
        subst (λ (w : List TokenKind). Taken Postfix w x.0 x.1) (append_assoc us inner ts) g
    sound_args us s a n ts ea p d (Some ws) e x r =
        let b = bind_ok (f (UpTo signs.RightRound) ws) (λ b. f (Suffixes ((seen_args limit) s n b.0)) b.1) x r in
        let t = h (UpTo signs.RightRound) ws b.0 b.1 in
        let left = sign signs.LeftRound in
        let right = sign signs.RightRound in
        let front : List TokenKind → List TokenKind = λ w. sign signs.Bar ∷ kinds.Name n ∷ w in
        let inner = front (left ∷ (t.used ++ (right ∷ []))) in
        let both = args_both us t.used s b.0.0 a t.tree n p ea t.kept d t.spelled in
        let g = h (Suffixes ((seen_args limit) s n b.0.0)) b.0.1 x b.2 (us ++ inner) both.tree both.kept both.spelled in
        let e1 : (us ++ inner) ++ b.0.1 ≡ us ++ (front ts) = append_assoc us inner b.0.1 ∙ ap (λ (w : List TokenKind). us ++ (front w)) (ap (λ (w : List TokenKind). left ∷ w) (append_assoc t.used (right ∷ []) b.0.1 ∙ sym t.parts) ∙ sym (after_is signs.LeftRound ts ws e)) in
        subst (λ (w : List TokenKind). Taken Postfix w x.0 x.1) e1 g

    sound_transform : (us : List TokenKind) (s : Seen) (a : Tree) (ts : List TokenKind) → s ≡ (cap limit) a → Spells Postfix us a → (o : Option (List ℕ × List TokenKind)) → plain_at ts ≡ o → (x : Seen × List TokenKind) → (transform_part limit) f s o ≡ Some x → Taken Postfix (us ++ (sign signs.Bar ∷ ts)) x.0 x.1
    sound_transform us s a ts ea d None e x r = absurd cc
    sound_transform us s a ts ea d (Some n) e x r =
        let p = plain_is ts n e in
        subst (λ (w : List TokenKind). Taken Postfix (us ++ (sign signs.Bar ∷ w)) x.0 x.1) (sym p.front) (sound_args us s a n.0 n.1 ea p.plain d (after signs.LeftRound n.1) refl x r)

    sound_suffix : (s : Seen) (k : TokenKind) (ks : List TokenKind) (o : Suffix) → suffix_of k ≡ o → (x : Seen × List TokenKind) → (suffix_part limit) f s (k ∷ ks) ks o ≡ Some x → Sound (Suffixes s) (k ∷ ks) x.0 x.1
    sound_suffix s k ks suffixes.None e x r us a ea d =
        subst (λ (y : Seen × List TokenKind). Taken Postfix (us ++ (k ∷ ks)) y.0 y.1) (some_is (s, k ∷ ks) x r) (record { used = us; tree = a; parts = refl; spelled = d; kept = ea })
    sound_suffix s k ks suffixes.Member e x r us a ea d =
        subst (λ (q : TokenKind). Taken Postfix (us ++ (q ∷ ks)) x.0 x.1) (sym (member_suffix_is k e)) (sound_member us s a ks ea d (name_at ks) refl x r)
    sound_suffix s k ks suffixes.Bracket e x r us a ea d =
        let b = bind_ok (f AnExpr ks) (λ b. (square_part limit) f s b.0 (after signs.RightSquare b.1)) x r in
        let t = h AnExpr ks b.0 b.1 in
        let g = sound_square us t.used s b.0.0 a t.tree b.0.1 ea t.kept d t.spelled (after signs.RightSquare b.0.1) refl x b.2 in
        subst (λ (q : TokenKind). Taken Postfix (us ++ (q ∷ ks)) x.0 x.1) (sym (bracket_suffix_is k e)) (subst (λ (w : List TokenKind). Taken Postfix (us ++ (sign signs.LeftSquare ∷ w)) x.0 x.1) (sym t.parts) g)
    sound_suffix s k ks suffixes.Transform e x r us a ea d =
        subst (λ (q : TokenKind). Taken Postfix (us ++ (q ∷ ks)) x.0 x.1) (sym (transform_suffix_is k e)) (sound_transform us s a ks ea d (plain_at ks) refl x r)

    sound_suffixes : (s : Seen) (ts : List TokenKind) (x : Seen × List TokenKind) → (suffixes_part limit) f s ts ≡ Some x → Sound (Suffixes s) ts x.0 x.1
    sound_suffixes s [] x r us a ea d = subst (λ (y : Seen × List TokenKind). Taken Postfix (us ++ []) y.0 y.1) (some_is (s, []) x r) (record { used = us; tree = a; parts = refl; spelled = d; kept = ea })
    sound_suffixes s (k ∷ ks) x r us a ea d = sound_suffix s k ks (suffix_of k) refl x r us a ea d

    sound_group : (vs : List TokenKind) (s : Seen) (a : Tree) (ts : List TokenKind) → s ≡ (cap limit) a → Spells Expr vs a → (o : Option (List TokenKind)) → after signs.RightRound ts ≡ o → (x : Seen × List TokenKind) → (closed_part limit) s o ≡ Some x → Taken Primary (sign signs.LeftRound ∷ (vs ++ ts)) x.0 x.1
    sound_group vs s a ts ea d None e x r = absurd cc
    sound_group vs s a ts ea d (Some ws) e x r =
        let left = sign signs.LeftRound in
        let right = sign signs.RightRound in
        let e1 : left ∷ (vs ++ ts) ≡ (left ∷ (vs ++ (right ∷ []))) ++ ws = ap (λ (w : List TokenKind). left ∷ w) (ap (λ (w : List TokenKind). vs ++ w) (after_is signs.RightRound ts ws e) ∙ sym (append_assoc vs (right ∷ []) ws)) in
        subst (λ (y : Seen × List TokenKind). Taken Primary (left ∷ (vs ++ ts)) y.0 y.1) (some_is (s, ws) x r) (record { used = left ∷ (vs ++ (right ∷ [])); tree = a; parts = e1; spelled = group d; kept = ea })

    sound_opening : (s : Sign) (ks : List TokenKind) (o : Opening) → opening_of s ≡ o → (x : Seen × List TokenKind) → (opening_part limit) f ks o ≡ Some x → Taken Primary (kinds.Sign s ∷ ks) x.0 x.1
    sound_opening s ks openings.Minus e x r =
        let n = bind_ok (number_at ks) (λ n. Some ((cap limit) (Literal (Whole (neg_ℤ n.0))), n.1)) x r in
        let e1 : kinds.Sign s ∷ ks ≡ (sign signs.Minus ∷ kinds.Number n.0.0 ∷ []) ++ n.0.1 = let p = minus_opening_is s e in let q = (number_is ks n.0 n.1).front in cc in
        let t = Literal (Whole (neg_ℤ n.0.0)) in
        subst (λ (y : Seen × List TokenKind). Taken Primary (kinds.Sign s ∷ ks) y.0 y.1) (some_is ((cap limit) t, n.0.1) x n.2) (record { used = sign signs.Minus ∷ kinds.Number n.0.0 ∷ []; tree = t; parts = e1; spelled = negative n.0.0 (number_is ks n.0 n.1).natural; kept = refl })
    sound_opening s ks openings.Dot e x r =
        let n = bind_ok (name_at ks) (λ n. Some ((cap limit) (Relative n.0), n.1)) x r in
        let e1 : kinds.Sign s ∷ ks ≡ (sign signs.Dot ∷ kinds.Name n.0.0 ∷ []) ++ n.0.1 = let p = dot_opening_is s e in let q = name_is ks n.0 n.1 in cc in
        subst (λ (y : Seen × List TokenKind). Taken Primary (kinds.Sign s ∷ ks) y.0 y.1) (some_is ((cap limit) (Relative n.0.0), n.0.1) x n.2) (record { used = sign signs.Dot ∷ kinds.Name n.0.0 ∷ []; tree = Relative n.0.0; parts = e1; spelled = relative n.0.0; kept = refl })
    sound_opening s ks openings.Round e x r =
        let a = bind_ok (f AnExpr ks) (λ a. (closed_part limit) a.0 (after signs.RightRound a.1)) x r in
        let t = h AnExpr ks a.0 a.1 in
        let g = sound_group t.used a.0.0 t.tree a.0.1 t.kept t.spelled (after signs.RightRound a.0.1) refl x a.2 in
        subst (λ (q : Sign). Taken Primary (kinds.Sign q ∷ ks) x.0 x.1) (sym (round_opening_is s e)) (subst (λ (w : List TokenKind). Taken Primary (sign signs.LeftRound ∷ w) x.0 x.1) (sym t.parts) g)
    sound_opening s ks openings.Square e x r =
        let t = h (UpTo signs.RightSquare) ks x r in
        let left = sign signs.LeftSquare in
        let right = sign signs.RightSquare in
        let e1 : left ∷ ks ≡ (left ∷ (t.used ++ (right ∷ []))) ++ x.1 = ap (λ (w : List TokenKind). left ∷ w) (t.parts ∙ sym (append_assoc t.used (right ∷ []) x.1)) in
        subst (λ (q : Sign). Taken Primary (kinds.Sign q ∷ ks) x.0 x.1) (sym (square_opening_is s e)) (record { used = left ∷ (t.used ++ (right ∷ [])); tree = t.tree; parts = e1; spelled = items t.spelled; kept = t.kept })
    sound_opening s ks openings.Brace e x r =
        let t = h ToBrace ks x r in
        let left = sign signs.LeftBrace in
        let right = sign signs.RightBrace in
        let e1 : left ∷ ks ≡ (left ∷ (t.used ++ (right ∷ []))) ++ x.1 = ap (λ (w : List TokenKind). left ∷ w) (t.parts ∙ sym (append_assoc t.used (right ∷ []) x.1)) in
        subst (λ (q : Sign). Taken Primary (kinds.Sign q ∷ ks) x.0 x.1) (sym (brace_opening_is s e)) (record { used = left ∷ (t.used ++ (right ∷ [])); tree = t.tree; parts = e1; spelled = object t.spelled; kept = t.kept })
    sound_opening s ks openings.None e x r = absurd cc

    sound_word : (n : List ℕ) (ks : List TokenKind) (w : Word) → word_of n ≡ w → (x : Seen × List TokenKind) → (word_part limit) n ks w ≡ Some x → Taken Primary (kinds.Name n ∷ ks) x.0 x.1
    sound_word n ks words.Plain e x r = one_token (kinds.Name n) ks (Named n) x (name n e) r
    sound_word n ks words.In e x r = absurd cc
    sound_word n ks words.True e x r = one_token (kinds.Name n) ks (Literal (Truth true)) x (truth n e) r
    sound_word n ks words.False e x r = one_token (kinds.Name n) ks (Literal (Truth false)) x (falsity n e) r
    sound_word n ks words.Null e x r = one_token (kinds.Name n) ks (Literal Null) x (null n e) r

    sound_primary : (ts : List TokenKind) (x : Seen × List TokenKind) → (primary_part limit) f ts ≡ Some x → Taken Primary ts x.0 x.1
    sound_primary [] x r = absurd cc
    sound_primary (kinds.Number n ∷ ks) x r = one_token (kinds.Number n) ks (Literal (Whole n)) x (number n) r
    sound_primary (kinds.Quoted q ∷ ks) x r = one_token (kinds.Quoted q) ks (Literal (Quote q)) x (quoted q) r
    sound_primary (kinds.Name n ∷ ks) x r = sound_word n ks (word_of n) refl x r
    sound_primary (kinds.Sign s ∷ ks) x r = sound_opening s ks (opening_of s) refl x r

    sound_close : (y : Symbol) (c : Sign) (us : List TokenKind) (s : Seen) (a : Tree) (ts : List TokenKind) → s ≡ (cap limit) a → Spells y us a → (o : Option (List TokenKind)) → after c ts ≡ o → (x : Seen × List TokenKind) → (closed_part limit) s o ≡ Some x → Closed y c (us ++ ts) x.0 x.1
    sound_close y c us s a ts ea d None e x r = absurd cc
    sound_close y c us s a ts ea d (Some ws) e x r =
        subst (λ (z : Seen × List TokenKind). Closed y c (us ++ ts) z.0 z.1) (some_is (s, ws) x r) (record { used = us; tree = a; parts = ap (λ (w : List TokenKind). us ++ w) (after_is c ts ws e); spelled = d; kept = ea })

    sound_up_to : (c : Sign) (ts : List TokenKind) (o : Option (List TokenKind)) → after c ts ≡ o → (x : Seen × List TokenKind) → (up_to_part limit) f c ts o ≡ Some x → Closed Args c ts x.0 x.1
    sound_up_to c ts None e x r =
        let a = bind_ok (f SomeExprs ts) (λ a. (closed_part limit) a.0 (after c a.1)) x r in
        let t = h SomeExprs ts a.0 a.1 in
        subst (λ (w : List TokenKind). Closed Args c w x.0 x.1) (sym t.parts) (sound_close Args c t.used a.0.0 t.tree a.0.1 t.kept (args t.spelled) (after c a.0.1) refl x a.2)
    sound_up_to c ts (Some us) e x r =
        subst (λ (z : Seen × List TokenKind). Closed Args c ts z.0 z.1) (some_is ((cap limit) (Items none), us) x r) (record { used = []; tree = Items none; parts = after_is c ts us e; spelled = no_args; kept = refl })

    sound_more_exprs : (s : Seen) (ts : List TokenKind) (o : Option (List TokenKind)) → after signs.Comma ts ≡ o → (x : Seen × List TokenKind) → (more_exprs_part limit) f s ts o ≡ Some x → Sound (MoreExprs s) ts x.0 x.1
    sound_more_exprs s ts None e x r us a ea d =
        subst (λ (y : Seen × List TokenKind). Taken Exprs (us ++ ts) y.0 y.1) (some_is (s, ts) x r) (record { used = us; tree = a; parts = refl; spelled = d; kept = ea })
    sound_more_exprs s ts (Some vs) e x r us a ea d =
        let b = bind_ok (f AnExpr vs) (λ b. f (MoreExprs ((seen_item limit) s b.0)) b.1) x r in
        let t = h AnExpr vs b.0 b.1 in
        let comma = sign signs.Comma in
        let both = item_both us t.used s b.0.0 a t.tree ea t.kept d t.spelled in
        let g = h (MoreExprs ((seen_item limit) s b.0.0)) b.0.1 x b.2 (us ++ (comma ∷ t.used)) both.tree both.kept both.spelled in
        let e1 : (us ++ (comma ∷ t.used)) ++ b.0.1 ≡ us ++ ts = append_assoc us (comma ∷ t.used) b.0.1 ∙ ap (λ (w : List TokenKind). us ++ w) (ap (λ (w : List TokenKind). comma ∷ w) (sym t.parts) ∙ sym (after_is signs.Comma ts vs e)) in
        subst (λ (w : List TokenKind). Taken Exprs w x.0 x.1) e1 g

    sound_to_brace : (ts : List TokenKind) (o : Option (List TokenKind)) → after signs.RightBrace ts ≡ o → (x : Seen × List TokenKind) → (to_brace_part limit) f ts o ≡ Some x → Closed MemberList signs.RightBrace ts x.0 x.1
    sound_to_brace ts None e x r =
        let start = (cap limit) (Members no_pair) in
        let a = bind_ok (f (APair start) ts) (λ a. (closed_part limit) a.0 (after signs.RightBrace a.1)) x r in
        let t = h (APair start) ts a.0 a.1 [] (Members no_pair) refl nothing in
        subst (λ (w : List TokenKind). Closed MemberList signs.RightBrace w x.0 x.1) (sym t.parts) (sound_close MemberList signs.RightBrace t.used a.0.0 t.tree a.0.1 t.kept (members t.spelled) (after signs.RightBrace a.0.1) refl x a.2)
    sound_to_brace ts (Some us) e x r =
        subst (λ (z : Seen × List TokenKind). Closed MemberList signs.RightBrace ts z.0 z.1) (some_is ((cap limit) (Members no_pair), us) x r) (record { used = []; tree = Members no_pair; parts = after_is signs.RightBrace ts us e; spelled = no_members; kept = refl })

    sound_value : (s : Seen) (k : TokenKind) (n : List ℕ) (ts : List TokenKind) → key_of k ≡ Some n → (o : Option (List TokenKind)) → after signs.Colon ts ≡ o → (x : Seen × List TokenKind) → (value_part limit) f s n o ≡ Some x → Sound (APair s) (k ∷ ts) x.0 x.1
    sound_value s k n ts m None e x r us a ea d = absurd cc
    sound_value s k n ts m (Some vs) e x r us a ea d =
        let b = bind_ok (f AnExpr vs) (λ b. f (MorePairs ((seen_pair limit) s n b.0)) b.1) x r in
        let t = h AnExpr vs b.0 b.1 in
        let inner = k ∷ sign signs.Colon ∷ t.used in
        let both = pair_both us t.used s b.0.0 a t.tree k n m ea t.kept d t.spelled in
        let g = h (MorePairs ((seen_pair limit) s n b.0.0)) b.0.1 x b.2 (us ++ inner) both.tree both.kept both.spelled in
        let e1 : (us ++ inner) ++ b.0.1 ≡ us ++ (k ∷ ts) = append_assoc us inner b.0.1 ∙ ap (λ (w : List TokenKind). us ++ (k ∷ w)) (ap (λ (w : List TokenKind). sign signs.Colon ∷ w) (sym t.parts) ∙ sym (after_is signs.Colon ts vs e)) in
        subst (λ (w : List TokenKind). Taken PairList w x.0 x.1) e1 g

    sound_pair : (s : Seen) (ts : List TokenKind) (o : Option (List ℕ × List TokenKind)) → key_at ts ≡ o → (x : Seen × List TokenKind) → (pair_part limit) f s o ≡ Some x → Sound (APair s) ts x.0 x.1
    sound_pair s ts None e x r us a ea d = absurd cc
    sound_pair s ts (Some n) e x r us a ea d =
        let k = key_is ts n e in
        subst (λ (w : List TokenKind). Taken PairList (us ++ w) x.0 x.1) (sym k.front) (sound_value s k.token n.0 n.1 k.means (after signs.Colon n.1) refl x r us a ea d)

    sound_more_pairs : (s : Seen) (ts : List TokenKind) (o : Option (List TokenKind)) → after signs.Comma ts ≡ o → (x : Seen × List TokenKind) → (more_pairs_part limit) f s ts o ≡ Some x → Sound (MorePairs s) ts x.0 x.1
    sound_more_pairs s ts None e x r us a ea d =
        subst (λ (y : Seen × List TokenKind). Taken PairList (us ++ ts) y.0 y.1) (some_is (s, ts) x r) (record { used = us; tree = a; parts = refl; spelled = d; kept = ea })
    sound_more_pairs s ts (Some vs) e x r us a ea d =
        let comma = sign signs.Comma in
        let g = h (APair s) vs x r (us ++ (comma ∷ [])) a ea (a_comma d) in
        let e1 : (us ++ (comma ∷ [])) ++ vs ≡ us ++ ts = append_assoc us (comma ∷ []) vs ∙ ap (λ (w : List TokenKind). us ++ w) (sym (after_is signs.Comma ts vs e)) in
        subst (λ (w : List TokenKind). Taken PairList w x.0 x.1) e1 g

    pub sound_step : IsSound ((step limit) f)
    sound_step AnExpr ts x r =
        let a = bind_ok (f (Climb 1) ts) (λ a. (choice_part limit) f a.0 a.1 (after signs.Question a.1)) x r in
        let t = h (Climb 1) ts a.0 a.1 (omega arith) in
        subst (λ (w : List TokenKind). Taken Expr w x.0 x.1) (sym t.0.parts) (sound_choice t.0.used a.0.0 t.0.tree a.0.1 t.0.kept t.0.spelled (after signs.Question a.0.1) refl x a.2)
    sound_step (Climb n) ts x r = λ le.
        let a = bind_ok (f AUnary ts) (λ a. f (Loop n a.0) a.1) x r in
        let t = h AUnary ts a.0 a.1 in
        let g = h (Loop n a.0.0) a.0.1 x a.2 t.used 6 t.tree t.kept (tightest t.spelled) le (no_operator_above 7 a.0.1 (omega arith)) in
        (subst (λ (w : List TokenKind). Taken (Level n) w x.0 x.1) (sym t.parts) g.0, g.1)
    sound_step (Loop n s) ts x r = sound_loop n s ts (operator_at n ts) refl x r
    sound_step AUnary ts x r = sound_unary ts (after signs.Bang ts) refl x r
    sound_step APostfix ts x r =
        let a = bind_ok (f APrimary ts) (λ a. f (Suffixes a.0) a.1) x r in
        let t = h APrimary ts a.0 a.1 in
        subst (λ (w : List TokenKind). Taken Postfix w x.0 x.1) (sym t.parts) (h (Suffixes a.0.0) a.0.1 x a.2 t.used t.tree t.kept (primary t.spelled))
    sound_step (Suffixes s) ts x r = sound_suffixes s ts x r
    sound_step APrimary ts x r = sound_primary ts x r
    sound_step (UpTo c) ts x r = sound_up_to c ts (after c ts) refl x r
    sound_step SomeExprs ts x r =
        let b = bind_ok (f AnExpr ts) (λ b. f (MoreExprs ((seen_item limit) ((cap limit) (Items none)) b.0)) b.1) x r in
        let t = h AnExpr ts b.0 b.1 in
        subst (λ (w : List TokenKind). Taken Exprs w x.0 x.1) (sym t.parts) (h (MoreExprs ((seen_item limit) ((cap limit) (Items none)) b.0.0)) b.0.1 x b.2 t.used (Items (one_more t.tree none)) ((kept_item limit) ((cap limit) (Items none)) b.0.0 none t.tree refl t.kept) (one_expr t.spelled))
    sound_step (MoreExprs s) ts x r = sound_more_exprs s ts (after signs.Comma ts) refl x r
    sound_step ToBrace ts x r = sound_to_brace ts (after signs.RightBrace ts) refl x r
    sound_step (APair s) ts x r = sound_pair s ts (key_at ts) refl x r
    sound_step (MorePairs s) ts x r = sound_more_pairs s ts (after signs.Comma ts) refl x r

  pub sound : (n : ℕ) → IsSound ((read limit) n)
  unfolding read
  sound zero job ts x r = absurd cc
  sound (suc n) job ts x r = sound_step ((read limit) n) (sound n) job ts x r
