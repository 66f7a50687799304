-- What is kept of a tree is made of what is kept of its parts.
use Rattle.std.proofs.Common.{◌≡◌, ℕ, ◌<◌, ◌≤◌, Bool, true, false, cond, List, Option, Some, None, max, refl, sym, ap, subst, ◌∙◌, arith}
use Rattle.std.specs.Prelude.{nat_le, ◌||◌}
use Rattle.std.proofs.lemmas.Bool.{leb-true, leb-false, lt-leb}
use Rattle.jexl_parser.specs.declared.node.BinarySign.{BinarySign}
use Rattle.jexl_parser.specs.Tree.{Tree, Items, Members, Member, Index, Filter, Transform, Not, Binary, Choose, OrElse, Trees, none, one_more, Pairs, no_pair, pair, add, add_pair, has_relative, any_relative, any_pair_relative, height, most, most_of_pairs}
use Rattle.jexl_parser.specs.Seen.{Seen, fit, cap, with_1, with_2, with_3, item_of, pair_of, transform_of, seen_not, seen_member, seen_bracket, seen_binary, seen_or_else, seen_choose, seen_args, seen_item, seen_pair}

abbrev seen : Option Tree → Bool → Seen
seen o r = record { tree = o; relative = r }

or_no : (a b : Bool) → b ≡ false → (a || b) ≡ a
or_no true b e = refl
or_no false b e = e

-- where a tree fits if no path in it has more than `limit` nodes
module _ (limit : ℕ) where
  -- a tree that doesn't fit
  pub fit_none : (t : Tree) → limit < height t → (fit limit) t ≡ None
  fit_none t h = ap (λ (b : Bool). cond b (Some t) None) (lt-leb (height t) limit h)

  with_1_by : (g : Tree → Tree) (a : Tree) → height a ≤ height (g a) → (b : Bool) → nat_le (height a) limit ≡ b → (with_1 limit) g (cond b (Some a) None) ≡ (fit limit) (g a)
  with_1_by g a le true e = refl
  with_1_by g a le false e = let h = leb-false (height a) limit e in sym (fit_none (g a) (omega arith))

  with_1_fit : (g : Tree → Tree) (a : Tree) → height a ≤ height (g a) → (with_1 limit) g ((fit limit) a) ≡ (fit limit) (g a)
  with_1_fit g a le = with_1_by g a le (nat_le (height a) limit) refl

  with_2_by : (g : Tree → Tree → Tree) (a b : Tree) → height a ≤ height (g a b) → height b ≤ height (g a b) → (p q : Bool) → nat_le (height a) limit ≡ p → nat_le (height b) limit ≡ q → (with_2 limit) g (cond p (Some a) None) (cond q (Some b) None) ≡ (fit limit) (g a b)
  with_2_by g a b la lb true true e f = refl
  with_2_by g a b la lb true false e f = let h = leb-false (height b) limit f in sym (fit_none (g a b) (omega arith))
  with_2_by g a b la lb false q e f = let h = leb-false (height a) limit e in sym (fit_none (g a b) (omega arith))

  with_2_fit : (g : Tree → Tree → Tree) (a b : Tree) → height a ≤ height (g a b) → height b ≤ height (g a b) → (with_2 limit) g ((fit limit) a) ((fit limit) b) ≡ (fit limit) (g a b)
  with_2_fit g a b la lb = with_2_by g a b la lb (nat_le (height a) limit) (nat_le (height b) limit) refl refl

  with_3_by : (g : Tree → Tree → Tree → Tree) (a b c : Tree) → height a ≤ height (g a b c) → height b ≤ height (g a b c) → height c ≤ height (g a b c) → (p q r : Bool) → nat_le (height a) limit ≡ p → nat_le (height b) limit ≡ q → nat_le (height c) limit ≡ r → (with_3 limit) g (cond p (Some a) None) (cond q (Some b) None) (cond r (Some c) None) ≡ (fit limit) (g a b c)
  with_3_by g a b c la lb lc true true true e f d = refl
  with_3_by g a b c la lb lc true true false e f d = let h = leb-false (height c) limit d in sym (fit_none (g a b c) (omega arith))
  with_3_by g a b c la lb lc true false r e f d = let h = leb-false (height b) limit f in sym (fit_none (g a b c) (omega arith))
  with_3_by g a b c la lb lc false q r e f d = let h = leb-false (height a) limit e in sym (fit_none (g a b c) (omega arith))

  pub cap_not : (a : Tree) → (seen_not limit) ((cap limit) a) ≡ (cap limit) (Not a)
  cap_not a = ap (λ (o : Option Tree). seen o (has_relative a)) (with_1_fit Not a (omega arith))

  pub cap_member : (a : Tree) (n : List ℕ) → (seen_member limit) ((cap limit) a) n ≡ (cap limit) (Member a n)
  cap_member a n = ap (λ (o : Option Tree). seen o (has_relative a)) (with_1_fit (λ x. Member x n) a (omega arith))

  pub cap_binary : (o : BinarySign) (a b : Tree) → (seen_binary limit) o ((cap limit) a) ((cap limit) b) ≡ (cap limit) (Binary o a b)
  cap_binary o a b = ap (λ (p : Option Tree). seen p (has_relative a || has_relative b)) (with_2_fit (Binary o) a b (omega arith) (omega arith))

  pub cap_or_else : (a c : Tree) → (seen_or_else limit) ((cap limit) a) ((cap limit) c) ≡ (cap limit) (OrElse a c)
  cap_or_else a c = ap (λ (p : Option Tree). seen p (has_relative a || has_relative c)) (with_2_fit OrElse a c (omega arith) (omega arith))

  pub cap_choose : (a b c : Tree) → (seen_choose limit) ((cap limit) a) ((cap limit) b) ((cap limit) c) ≡ (cap limit) (Choose a b c)
  cap_choose a b c = ap (λ (p : Option Tree). seen p (has_relative a || (has_relative b || has_relative c))) (with_3_by Choose a b c (omega arith) (omega arith) (omega arith) (nat_le (height a) limit) (nat_le (height b) limit) (nat_le (height c) limit) refl refl refl)

  pub cap_index : (a b : Tree) → has_relative b ≡ false → (seen_bracket limit) ((cap limit) a) ((cap limit) b) ≡ (cap limit) (Index a b)
  cap_index a b e =
      ap (λ (r : Bool). seen ((with_2 limit) (λ x y. cond r (Filter x y) (Index x y)) ((fit limit) a) ((fit limit) b)) (has_relative a)) e
      ∙ ap (λ (p : Option Tree). seen p (has_relative a)) (with_2_fit Index a b (omega arith) (omega arith))
      ∙ ap (λ (r : Bool). seen ((fit limit) (Index a b)) r) (sym (or_no (has_relative a) (has_relative b) e))

  pub cap_filter : (a b : Tree) → has_relative b ≡ true → (seen_bracket limit) ((cap limit) a) ((cap limit) b) ≡ (cap limit) (Filter a b)
  cap_filter a b e =
      ap (λ (r : Bool). seen ((with_2 limit) (λ x y. cond r (Filter x y) (Index x y)) ((fit limit) a) ((fit limit) b)) (has_relative a)) e
      ∙ ap (λ (p : Option Tree). seen p (has_relative a)) (with_2_fit Filter a b (omega arith) (omega arith))

  pub cap_args : (a : Tree) (n : List ℕ) (bs : Trees) → (seen_args limit) ((cap limit) a) n ((cap limit) (Items bs)) ≡ (cap limit) (Transform a n bs)
  cap_args a n bs = ap (λ (p : Option Tree). seen p (has_relative a || any_relative bs)) (with_2_fit (λ x y. transform_of x n y) a (Items bs) (omega arith) (omega arith))

  max_assoc : (a b c : ℕ) → max a (max b c) ≡ max (max a b) c
  max_assoc a b c = omega arith

  or_assoc : (a b c : Bool) → (a || (b || c)) ≡ ((a || b) || c)
  or_assoc true b c = refl
  or_assoc false b c = refl

  or_false : (a : Bool) → (a || false) ≡ a
  or_false true = refl
  or_false false = refl

  pub most_add : (ts : Trees) (b : Tree) → most (add ts b) ≡ max (most ts) (height b)
  most_add none b = omega arith
  most_add (one_more t ts) b = let h = most_add ts b in omega arith

  pub any_add : (ts : Trees) (b : Tree) → any_relative (add ts b) ≡ (any_relative ts || has_relative b)
  any_add none b = or_false (has_relative b)
  any_add (one_more t ts) b = ap (λ (r : Bool). has_relative t || r) (any_add ts b) ∙ or_assoc (has_relative t) (any_relative ts) (has_relative b)

  pub most_add_pair : (ps : Pairs) (n : List ℕ) (b : Tree) → most_of_pairs (add_pair ps n b) ≡ max (most_of_pairs ps) (height b)
  most_add_pair no_pair n b = omega arith
  most_add_pair (pair m t ps) n b = let h = most_add_pair ps n b in omega arith

  pub any_add_pair : (ps : Pairs) (n : List ℕ) (b : Tree) → any_pair_relative (add_pair ps n b) ≡ (any_pair_relative ps || has_relative b)
  any_add_pair no_pair n b = or_false (has_relative b)
  any_add_pair (pair m t ps) n b = ap (λ (r : Bool). has_relative t || r) (any_add_pair ps n b) ∙ or_assoc (has_relative t) (any_pair_relative ps) (has_relative b)

  pub cap_item : (ts : Trees) (b : Tree) → (seen_item limit) ((cap limit) (Items ts)) ((cap limit) b) ≡ (cap limit) (Items (add ts b))
  cap_item ts b =
      let h = most_add ts b in
      ap (λ (p : Option Tree). seen p (any_relative ts || has_relative b)) (with_2_fit item_of (Items ts) b (omega arith) (omega arith))
      ∙ ap (λ (r : Bool). seen ((fit limit) (Items (add ts b))) r) (sym (any_add ts b))

  pub cap_pair : (ps : Pairs) (n : List ℕ) (b : Tree) → (seen_pair limit) ((cap limit) (Members ps)) n ((cap limit) b) ≡ (cap limit) (Members (add_pair ps n b))
  cap_pair ps n b =
      let h = most_add_pair ps n b in
      ap (λ (p : Option Tree). seen p (any_pair_relative ps || has_relative b)) (with_2_fit (λ x y. pair_of x n y) (Members ps) b (omega arith) (omega arith))
      ∙ ap (λ (r : Bool). seen ((fit limit) (Members (add_pair ps n b))) r) (sym (any_add_pair ps n b))

  -- what is kept tells the tree, where it is kept
  fit_by : (t u : Tree) (b : Bool) → nat_le (height t) limit ≡ b → cond b (Some t) None ≡ Some u → (t ≡ u) × (height u ≤ limit)
  fit_by t u true e f =
      let same : t ≡ u = cc in
      (same, subst (λ (v : Tree). height v ≤ limit) same (leb-true (height t) limit e))
  fit_by t u false e f = absurd cc

  pub fit_is : (t u : Tree) → (fit limit) t ≡ Some u → (t ≡ u) × (height u ≤ limit)
  fit_is t u e = fit_by t u (nat_le (height t) limit) refl e

  tall_by : (t : Tree) (b : Bool) → nat_le (height t) limit ≡ b → cond b (Some t) None ≡ None → limit < height t
  tall_by t true e f = absurd cc
  tall_by t false e f = leb-false (height t) limit e

  pub fit_not : (t : Tree) → (fit limit) t ≡ None → limit < height t
  fit_not t e = tall_by t (nat_le (height t) limit) refl e

  -- the same where the parts are known by an equation
  pub kept_not : (s : Seen) (a : Tree) → s ≡ (cap limit) a → (seen_not limit) s ≡ (cap limit) (Not a)
  kept_not s a e = ap (seen_not limit) e ∙ cap_not a

  pub kept_member : (s : Seen) (a : Tree) (n : List ℕ) → s ≡ (cap limit) a → (seen_member limit) s n ≡ (cap limit) (Member a n)
  kept_member s a n e = ap (λ (x : Seen). (seen_member limit) x n) e ∙ cap_member a n

  pub kept_binary : (o : BinarySign) (s r : Seen) (a b : Tree) → s ≡ (cap limit) a → r ≡ (cap limit) b → (seen_binary limit) o s r ≡ (cap limit) (Binary o a b)
  kept_binary o s r a b e f = ap (λ (x : Seen). (seen_binary limit) o x r) e ∙ ap (λ (x : Seen). (seen_binary limit) o ((cap limit) a) x) f ∙ cap_binary o a b

  pub kept_or_else : (s r : Seen) (a c : Tree) → s ≡ (cap limit) a → r ≡ (cap limit) c → (seen_or_else limit) s r ≡ (cap limit) (OrElse a c)
  kept_or_else s r a c e f = ap (λ (x : Seen). (seen_or_else limit) x r) e ∙ ap (λ (x : Seen). (seen_or_else limit) ((cap limit) a) x) f ∙ cap_or_else a c

  pub kept_choose : (s r q : Seen) (a b c : Tree) → s ≡ (cap limit) a → r ≡ (cap limit) b → q ≡ (cap limit) c → (seen_choose limit) s r q ≡ (cap limit) (Choose a b c)
  kept_choose s r q a b c e f g = ap (λ (x : Seen). (seen_choose limit) x r q) e ∙ ap (λ (x : Seen). (seen_choose limit) ((cap limit) a) x q) f ∙ ap (λ (x : Seen). (seen_choose limit) ((cap limit) a) ((cap limit) b) x) g ∙ cap_choose a b c

  pub kept_index : (s r : Seen) (a b : Tree) → has_relative b ≡ false → s ≡ (cap limit) a → r ≡ (cap limit) b → (seen_bracket limit) s r ≡ (cap limit) (Index a b)
  kept_index s r a b h e f = ap (λ (x : Seen). (seen_bracket limit) x r) e ∙ ap (λ (x : Seen). (seen_bracket limit) ((cap limit) a) x) f ∙ cap_index a b h

  pub kept_filter : (s r : Seen) (a b : Tree) → has_relative b ≡ true → s ≡ (cap limit) a → r ≡ (cap limit) b → (seen_bracket limit) s r ≡ (cap limit) (Filter a b)
  kept_filter s r a b h e f = ap (λ (x : Seen). (seen_bracket limit) x r) e ∙ ap (λ (x : Seen). (seen_bracket limit) ((cap limit) a) x) f ∙ cap_filter a b h

  pub kept_args : (s r : Seen) (a : Tree) (n : List ℕ) (bs : Trees) → s ≡ (cap limit) a → r ≡ (cap limit) (Items bs) → (seen_args limit) s n r ≡ (cap limit) (Transform a n bs)
  kept_args s r a n bs e f = ap (λ (x : Seen). (seen_args limit) x n r) e ∙ ap (λ (x : Seen). (seen_args limit) ((cap limit) a) n x) f ∙ cap_args a n bs

  pub kept_item : (s r : Seen) (ts : Trees) (b : Tree) → s ≡ (cap limit) (Items ts) → r ≡ (cap limit) b → (seen_item limit) s r ≡ (cap limit) (Items (add ts b))
  kept_item s r ts b e f = ap (λ (x : Seen). (seen_item limit) x r) e ∙ ap (λ (x : Seen). (seen_item limit) ((cap limit) (Items ts)) x) f ∙ cap_item ts b

  pub kept_pair : (s r : Seen) (ps : Pairs) (n : List ℕ) (b : Tree) → s ≡ (cap limit) (Members ps) → r ≡ (cap limit) b → (seen_pair limit) s n r ≡ (cap limit) (Members (add_pair ps n b))
  kept_pair s r ps n b e f = ap (λ (x : Seen). (seen_pair limit) x n r) e ∙ ap (λ (x : Seen). (seen_pair limit) ((cap limit) (Members ps)) n x) f ∙ cap_pair ps n b
