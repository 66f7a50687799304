-- Reading needs no more steps than `need`, so `read_of` meets the equation of one step.
use Rattle.std.proofs.Common.{◌≡◌, ℕ, zero, suc, ◌+◌, ◌*◌, ◌<◌, ◌≤◌, List, [], ◌∷◌, length, Option, Some, None, refl, ap, ◌∙◌, arith, length-append}
use Rattle.jexl_lexer.specs.declared.token.Sign.{Sign}
use Rattle.jexl_lexer.specs.declared.token.Sign.TheVariants as signs
use Rattle.jexl_lexer.specs.declared.token.TokenKind.{TokenKind}
use Rattle.jexl_lexer.specs.declared.token.TokenKind.TheVariants as kinds
use Rattle.jexl_parser.specs.declared.node.BinarySign.{BinarySign}
use Rattle.jexl_parser.specs.declared.front.Suffix.{Suffix}
use Rattle.jexl_parser.specs.declared.front.Suffix.TheVariants as suffixes
use Rattle.jexl_parser.specs.declared.front.Opening.{Opening}
use Rattle.jexl_parser.specs.declared.front.Opening.TheVariants as openings
use Rattle.jexl_parser.specs.Tree.{Items, Members, none, no_pair}
use Rattle.jexl_parser.specs.Seen.{Seen, cap, seen_member, seen_bracket, seen_binary, seen_args, seen_item, seen_pair}
use Rattle.jexl_parser.specs.Grammar.{level_of, Symbol, sign}
use Rattle.jexl_parser.specs.Reading.{◌>>=◌, Job, AnExpr, Climb, Loop, AUnary, APostfix, Suffixes, APrimary, UpTo, SomeExprs, MoreExprs, ToBrace, APair, MorePairs, Reader, after, name_at, plain_at, key_at, operator_at, suffix_of, opening_of, colon_part, or_part, choice_part, loop_part, unary_part, member_part, square_part, args_part, transform_part, suffix_part, suffixes_part, opening_part, primary_part, up_to_part, more_exprs_part, to_brace_part, value_part, pair_part, more_pairs_part, step, read, rank, need, read_of}
use Rattle.jexl_parser.proofs.Tools.{after_is, name_is, plain_is, key_is, operator_is, level_at_most}
use Rattle.jexl_parser.proofs.Sound.{Taken, Closed, IsSound, sound}

bind_same : {A B : Type 0} (r : Option A) (p q : A → Option B) → ((x : A) → r ≡ Some x → p x ≡ q x) → (r >>= p) ≡ (r >>= q)
bind_same None p q k = refl
bind_same (Some x) p q k = k x refl

bind_agree : {A B : Type 0} (r s : Option A) (p q : A → Option B) → r ≡ s → ((x : A) → r ≡ Some x → p x ≡ q x) → (r >>= p) ≡ (s >>= q)
bind_agree r s p q e k = bind_same r p q k ∙ ap (λ o. o >>= q) e

after_shorter : (s : Sign) (ts us : List TokenKind) → after s ts ≡ Some us → length us < length ts
after_shorter s ts us e = omega (arith, ap length (after_is s ts us e))

rank_at_most : (j : Job) → rank j < 8
rank_at_most AnExpr = omega arith
rank_at_most (Climb n) = omega arith
rank_at_most (Loop n a) = omega arith
rank_at_most AUnary = omega arith
rank_at_most APostfix = omega arith
rank_at_most (Suffixes a) = omega arith
rank_at_most APrimary = omega arith
rank_at_most (UpTo s) = omega arith
rank_at_most SomeExprs = omega arith
rank_at_most (MoreExprs a) = omega arith
rank_at_most ToBrace = omega arith
rank_at_most (APair a) = omega arith
rank_at_most (MorePairs a) = omega arith

abbrev weight : Job → List TokenKind → ℕ
weight j us = 8 * length us + rank j

-- where a tree fits if no path in it has more than `limit` nodes
module _ (limit : ℕ) where
  pub taken_le : {s : Symbol} {ts : List TokenKind} {x : Seen} {rest : List TokenKind} → (Taken limit) s ts x rest → length rest ≤ length ts
  taken_le {ts = ts} {rest = rest} h = omega (arith, ap length h.parts, length-append h.used rest)

  closed_le : {y : Symbol} {c : Sign} {ts : List TokenKind} {x : Seen} {rest : List TokenKind} → (Closed limit) y c ts x rest → length rest ≤ length ts
  closed_le {c = c} {ts = ts} {rest = rest} h = omega (arith, ap length h.parts, length-append h.used (sign c ∷ rest))

  module _ (f g : Reader) (h : (IsSound limit) f) (top : ℕ) (k : (j : Job) (us : List TokenKind) → length us < top → f j us ≡ g j us) where
    agree_colon : (a b : Seen) (ts : List TokenKind) → length ts ≤ top → (o : Option (List TokenKind)) → after signs.Colon ts ≡ o → (colon_part limit) f a b o ≡ (colon_part limit) g a b o
    agree_colon a b ts le None e = refl
    agree_colon a b ts le (Some us) e = let lt = after_shorter signs.Colon ts us e in bind_agree _ _ _ _ (k AnExpr us (omega arith)) (λ c r. refl)

    agree_or : (a : Seen) (ts : List TokenKind) → length ts < top → (o : Option (List TokenKind)) → after signs.Colon ts ≡ o → (or_part limit) f a ts o ≡ (or_part limit) g a ts o
    agree_or a ts le None e = bind_agree _ _ _ _ (k AnExpr ts le) (λ b r. let s = taken_le (h AnExpr ts b r) in agree_colon a b.0 b.1 (omega arith) (after signs.Colon b.1) refl)
    agree_or a ts le (Some us) e = let lt = after_shorter signs.Colon ts us e in bind_agree _ _ _ _ (k AnExpr us (omega arith)) (λ c r. refl)

    agree_choice : (a : Seen) (ts : List TokenKind) → length ts ≤ top → (o : Option (List TokenKind)) → after signs.Question ts ≡ o → (choice_part limit) f a ts o ≡ (choice_part limit) g a ts o
    agree_choice a ts le None e = refl
    agree_choice a ts le (Some us) e = let lt = after_shorter signs.Question ts us e in agree_or a us (omega arith) (after signs.Colon us) refl

    agree_loop : (n : ℕ) (a : Seen) (ts : List TokenKind) → length ts ≤ top → (o : Option (BinarySign × List TokenKind)) → operator_at n ts ≡ o → (loop_part limit) f n a ts o ≡ (loop_part limit) g n a ts o
    agree_loop n a ts le None e = refl
    agree_loop n a ts le (Some o) e =
        let op = operator_is n ts o e in
        let lt : length o.1 < top = omega (arith, ap length op.front) in
        bind_agree _ _ _ _ (k (Climb (suc (level_of o.0))) o.1 lt) (λ b r. let s = taken_le (h (Climb (suc (level_of o.0))) o.1 b r (level_at_most o.0)).0 in k (Loop n ((seen_binary limit) o.0 a b.0)) b.1 (omega arith))

    agree_member : (a : Seen) (ts : List TokenKind) → length ts ≤ top → (o : Option (List ℕ × List TokenKind)) → name_at ts ≡ o → (member_part limit) f a o ≡ (member_part limit) g a o
    agree_member a ts le None e = refl
    agree_member a ts le (Some n) e = k (Suffixes ((seen_member limit) a n.0)) n.1 (omega (arith, ap length (name_is ts n e)))

    agree_square : (a b : Seen) (ts : List TokenKind) → length ts ≤ top → (o : Option (List TokenKind)) → after signs.RightSquare ts ≡ o → (square_part limit) f a b o ≡ (square_part limit) g a b o
    agree_square a b ts le None e = refl
    agree_square a b ts le (Some us) e = let lt = after_shorter signs.RightSquare ts us e in k (Suffixes ((seen_bracket limit) a b)) us (omega arith)

    agree_args : (a : Seen) (n : List ℕ) (ts : List TokenKind) → length ts < top → (o : Option (List TokenKind)) → after signs.LeftRound ts ≡ o → (args_part limit) f a n ts o ≡ (args_part limit) g a n ts o
    agree_args a n ts lt None e = k (Suffixes ((seen_args limit) a n ((cap limit) (Items none)))) ts lt
    agree_args a n ts lt (Some us) e = let s = after_shorter signs.LeftRound ts us e in bind_agree _ _ _ _ (k (UpTo signs.RightRound) us (omega arith)) (λ b r. let c = closed_le (h (UpTo signs.RightRound) us b r) in k (Suffixes ((seen_args limit) a n b.0)) b.1 (omega arith))

    agree_transform : (a : Seen) (ts : List TokenKind) → length ts ≤ top → (o : Option (List ℕ × List TokenKind)) → plain_at ts ≡ o → (transform_part limit) f a o ≡ (transform_part limit) g a o
    agree_transform a ts le None e = refl
    agree_transform a ts le (Some n) e = agree_args a n.0 n.1 (omega (arith, ap length (plain_is ts n e).front)) (after signs.LeftRound n.1) refl

    agree_suffix : (a : Seen) (ts us : List TokenKind) (o : Suffix) → length us < top → (suffix_part limit) f a ts us o ≡ (suffix_part limit) g a ts us o
    agree_suffix a ts us suffixes.None lt = refl
    agree_suffix a ts us suffixes.Member lt = agree_member a us (omega arith) (name_at us) refl
    agree_suffix a ts us suffixes.Bracket lt = bind_agree _ _ _ _ (k AnExpr us lt) (λ b r. let s = taken_le (h AnExpr us b r) in agree_square a b.0 b.1 (omega arith) (after signs.RightSquare b.1) refl)
    agree_suffix a ts us suffixes.Transform lt = agree_transform a us (omega arith) (plain_at us) refl

    agree_suffixes : (a : Seen) (ts : List TokenKind) → length ts ≤ top → (suffixes_part limit) f a ts ≡ (suffixes_part limit) g a ts
    agree_suffixes a [] le = refl
    agree_suffixes a (q ∷ qs) le = agree_suffix a (q ∷ qs) qs (suffix_of q) (omega arith)

    agree_opening : (ks : List TokenKind) (o : Opening) → length ks < top → (opening_part limit) f ks o ≡ (opening_part limit) g ks o
    agree_opening ks openings.Minus lt = refl
    agree_opening ks openings.Dot lt = refl
    agree_opening ks openings.Round lt = bind_agree _ _ _ _ (k AnExpr ks lt) (λ a r. refl)
    agree_opening ks openings.Square lt = k (UpTo signs.RightSquare) ks lt
    agree_opening ks openings.Brace lt = k ToBrace ks lt
    agree_opening ks openings.None lt = refl

    agree_primary : (ts : List TokenKind) → length ts ≤ top → (primary_part limit) f ts ≡ (primary_part limit) g ts
    agree_primary [] le = refl
    agree_primary (kinds.Number n ∷ ks) le = refl
    agree_primary (kinds.Quoted q ∷ ks) le = refl
    agree_primary (kinds.Name n ∷ ks) le = refl
    agree_primary (kinds.Sign s ∷ ks) le = agree_opening ks (opening_of s) (omega arith)

    agree_unary : (ts : List TokenKind) → length ts ≤ top → f APostfix ts ≡ g APostfix ts → (o : Option (List TokenKind)) → after signs.Bang ts ≡ o → (unary_part limit) f ts o ≡ (unary_part limit) g ts o
    agree_unary ts le p None e = p
    agree_unary ts le p (Some us) e = let lt = after_shorter signs.Bang ts us e in bind_agree _ _ _ _ (k AUnary us (omega arith)) (λ a r. refl)

    agree_more_exprs : (a : Seen) (ts : List TokenKind) → length ts ≤ top → (o : Option (List TokenKind)) → after signs.Comma ts ≡ o → (more_exprs_part limit) f a ts o ≡ (more_exprs_part limit) g a ts o
    agree_more_exprs a ts le None e = refl
    agree_more_exprs a ts le (Some us) e = let s = after_shorter signs.Comma ts us e in bind_agree _ _ _ _ (k AnExpr us (omega arith)) (λ b r. let t = taken_le (h AnExpr us b r) in k (MoreExprs ((seen_item limit) a b.0)) b.1 (omega arith))

    agree_value : (a : Seen) (n : List ℕ) (ts : List TokenKind) → length ts ≤ top → (o : Option (List TokenKind)) → after signs.Colon ts ≡ o → (value_part limit) f a n o ≡ (value_part limit) g a n o
    agree_value a n ts le None e = refl
    agree_value a n ts le (Some us) e = let s = after_shorter signs.Colon ts us e in bind_agree _ _ _ _ (k AnExpr us (omega arith)) (λ b r. let t = taken_le (h AnExpr us b r) in k (MorePairs ((seen_pair limit) a n b.0)) b.1 (omega arith))

    agree_pair : (a : Seen) (ts : List TokenKind) → length ts ≤ top → (o : Option (List ℕ × List TokenKind)) → key_at ts ≡ o → (pair_part limit) f a o ≡ (pair_part limit) g a o
    agree_pair a ts le None e = refl
    agree_pair a ts le (Some n) e = agree_value a n.0 n.1 (omega (arith, ap length (key_is ts n e).front)) (after signs.Colon n.1) refl

    agree_more_pairs : (a : Seen) (ts : List TokenKind) → length ts ≤ top → (o : Option (List TokenKind)) → after signs.Comma ts ≡ o → (more_pairs_part limit) f a ts o ≡ (more_pairs_part limit) g a ts o
    agree_more_pairs a ts le None e = refl
    agree_more_pairs a ts le (Some us) e = let s = after_shorter signs.Comma ts us e in k (APair a) us (omega arith)

  agree_up_to : (f g : Reader) (c : Sign) (ts : List TokenKind) → f SomeExprs ts ≡ g SomeExprs ts → (o : Option (List TokenKind)) → (up_to_part limit) f c ts o ≡ (up_to_part limit) g c ts o
  agree_up_to f g c ts e None = bind_agree _ _ _ _ e (λ a r. refl)
  agree_up_to f g c ts e (Some us) = refl

  agree_to_brace : (f g : Reader) (ts : List TokenKind) → f (APair ((cap limit) (Members no_pair))) ts ≡ g (APair ((cap limit) (Members no_pair))) ts → (o : Option (List TokenKind)) → (to_brace_part limit) f ts o ≡ (to_brace_part limit) g ts o
  agree_to_brace f g ts e None = bind_agree _ _ _ _ e (λ a r. refl)
  agree_to_brace f g ts e (Some us) = refl

  -- readers that agree below a job agree after a step on it
  agree_step : (f g : Reader) → (IsSound limit) f → (job : Job) (ts : List TokenKind) → ((j : Job) (us : List TokenKind) → weight j us < weight job ts → f j us ≡ g j us) → (step limit) f job ts ≡ (step limit) g job ts
  agree_step f g h AnExpr ts k =
      let short : (j : Job) (us : List TokenKind) → length us < length ts → f j us ≡ g j us = λ j us lt. k j us (omega (arith, rank_at_most j)) in
      bind_agree _ _ _ _ (k (Climb 1) ts (omega arith)) (λ a r. let s = taken_le (h (Climb 1) ts a r (omega arith)).0 in agree_choice f g h (length ts) short a.0 a.1 s (after signs.Question a.1) refl)
  agree_step f g h (Climb n) ts k =
      bind_agree _ _ _ _ (k AUnary ts (omega arith)) (λ a r. let s = taken_le (h AUnary ts a r) in k (Loop n a.0) a.1 (omega arith))
  agree_step f g h (Loop n a) ts k =
      let short : (j : Job) (us : List TokenKind) → length us < length ts → f j us ≡ g j us = λ j us lt. k j us (omega (arith, rank_at_most j)) in
      agree_loop f g h (length ts) short n a ts (omega arith) (operator_at n ts) refl
  agree_step f g h AUnary ts k =
      let short : (j : Job) (us : List TokenKind) → length us < length ts → f j us ≡ g j us = λ j us lt. k j us (omega (arith, rank_at_most j)) in
      agree_unary f g h (length ts) short ts (omega arith) (k APostfix ts (omega arith)) (after signs.Bang ts) refl
  agree_step f g h APostfix ts k =
      bind_agree _ _ _ _ (k APrimary ts (omega arith)) (λ a r. let s = taken_le (h APrimary ts a r) in k (Suffixes a.0) a.1 (omega arith))
  agree_step f g h (Suffixes a) ts k =
      let short : (j : Job) (us : List TokenKind) → length us < length ts → f j us ≡ g j us = λ j us lt. k j us (omega (arith, rank_at_most j)) in
      agree_suffixes f g h (length ts) short a ts (omega arith)
  agree_step f g h APrimary ts k =
      let short : (j : Job) (us : List TokenKind) → length us < length ts → f j us ≡ g j us = λ j us lt. k j us (omega (arith, rank_at_most j)) in
      agree_primary f g h (length ts) short ts (omega arith)
  agree_step f g h (UpTo c) ts k = agree_up_to f g c ts (k SomeExprs ts (omega arith)) (after c ts)
  agree_step f g h SomeExprs ts k =
      bind_agree _ _ _ _ (k AnExpr ts (omega arith)) (λ b r. let s = taken_le (h AnExpr ts b r) in k (MoreExprs ((seen_item limit) ((cap limit) (Items none)) b.0)) b.1 (omega arith))
  agree_step f g h (MoreExprs a) ts k =
      let short : (j : Job) (us : List TokenKind) → length us < length ts → f j us ≡ g j us = λ j us lt. k j us (omega (arith, rank_at_most j)) in
      agree_more_exprs f g h (length ts) short a ts (omega arith) (after signs.Comma ts) refl
  agree_step f g h ToBrace ts k = agree_to_brace f g ts (k (APair ((cap limit) (Members no_pair))) ts (omega arith)) (after signs.RightBrace ts)
  agree_step f g h (APair a) ts k =
      let short : (j : Job) (us : List TokenKind) → length us < length ts → f j us ≡ g j us = λ j us lt. k j us (omega (arith, rank_at_most j)) in
      agree_pair f g h (length ts) short a ts (omega arith) (key_at ts) refl
  agree_step f g h (MorePairs a) ts k =
      let short : (j : Job) (us : List TokenKind) → length us < length ts → f j us ≡ g j us = λ j us lt. k j us (omega (arith, rank_at_most j)) in
      agree_more_pairs f g h (length ts) short a ts (omega arith) (after signs.Comma ts) refl

  same_read : (m n : ℕ) (job : Job) (ts : List TokenKind) → weight job ts < m → weight job ts < n → (read limit) m job ts ≡ (read limit) n job ts
  unfolding read
  same_read zero n job ts p q = absurd (omega arith)
  same_read (suc m) zero job ts p q = absurd (omega arith)
  same_read (suc m) (suc n) job ts p q = agree_step ((read limit) m) ((read limit) n) ((sound limit) m) job ts (λ j us lt. same_read m n j us (omega arith) (omega arith))

  -- the equation of one step
  pub read_step : (job : Job) (ts : List TokenKind) → (read_of limit) job ts ≡ (step limit) (read_of limit) job ts
  unfolding read read_of
  read_step job ts = agree_step ((read limit) (weight job ts)) (read_of limit) ((sound limit) (weight job ts)) job ts (λ j us lt. same_read (weight job ts) (need j us) j us lt (omega arith))

  pub read_sound : (IsSound limit) (read_of limit)
  unfolding read_of
  read_sound job ts x r = (sound limit) (need job ts) job ts x r
