-- The counts from the left tell whether the tokens nest too deep.
use Rattle.std.proofs.Common.{◌≡◌, ℕ, zero, suc, ◌+◌, ◌<◌, ◌≤◌, Bool, true, false, cond, List, [], ◌∷◌, take, refl, sym, ap, subst, ◌∙◌, arith}
use Rattle.std.specs.Prelude.{nat_lt, ◌||◌}
use Rattle.std.proofs.lemmas.Bool.{ltb-true, ltb-false}
use Rattle.jexl_lexer.specs.declared.token.TokenKind.{TokenKind}
use Rattle.jexl_parser.specs.declared.depth.TheConstants.{MAX_DEPTH}
use Rattle.jexl_parser.specs.Depth.{count_bracket, open_after, bangs_after, questions_in, IsTooDeep, brackets, bangs, questions}
use Rattle.jexl_parser.specs.Counting.{over, count_bang, count_question, deep_from}

-- too deep from these counts on
data Deep (o b q : ℕ) (ks : List TokenKind) : Type 0 where
  by_brackets : (n : ℕ) → MAX_DEPTH < open_after o (take n ks) → Deep o b q ks
  by_bangs : (n : ℕ) → MAX_DEPTH < bangs_after b (take n ks) → Deep o b q ks
  by_questions : MAX_DEPTH < q + questions_in ks → Deep o b q ks

-- what the test tells
over_true : (o b q : ℕ) (x y z : Bool) → nat_lt MAX_DEPTH o ≡ x → nat_lt MAX_DEPTH b ≡ y → nat_lt MAX_DEPTH q ≡ z → (x || (y || z)) ≡ true → (k : TokenKind) (ks : List TokenKind) (o0 b0 q0 : ℕ) → o ≡ count_bracket o0 k → b ≡ count_bang b0 k → q ≡ count_question q0 k → Deep o0 b0 q0 (k ∷ ks)
over_true o b q true y z ex ey ez h k ks o0 b0 q0 eo eb eq = let p = ltb-true MAX_DEPTH o ex in by_brackets 1 (subst (λ (n : ℕ). MAX_DEPTH < n) eo p)
over_true o b q false true z ex ey ez h k ks o0 b0 q0 eo eb eq = let p = ltb-true MAX_DEPTH b ey in by_bangs 1 (subst (λ (n : ℕ). MAX_DEPTH < n) eb p)
over_true o b q false false true ex ey ez h k ks o0 b0 q0 eo eb eq = let p = ltb-true MAX_DEPTH q ez in by_questions (omega arith)
over_true o b q false false false ex ey ez h k ks o0 b0 q0 eo eb eq = absurd cc

-- where the test fails, each count is at most `MAX_DEPTH`
over_false : (o b q : ℕ) (x y z : Bool) → nat_lt MAX_DEPTH o ≡ x → nat_lt MAX_DEPTH b ≡ y → nat_lt MAX_DEPTH q ≡ z → (x || (y || z)) ≡ false → (o ≤ MAX_DEPTH) × (b ≤ MAX_DEPTH) × (q ≤ MAX_DEPTH)
over_false o b q true y z ex ey ez h = absurd cc
over_false o b q false true z ex ey ez h = absurd cc
over_false o b q false false true ex ey ez h = absurd cc
over_false o b q false false false ex ey ez h = (ltb-false MAX_DEPTH o ex, ltb-false MAX_DEPTH b ey, ltb-false MAX_DEPTH q ez)

one_later : (o b q : ℕ) (k : TokenKind) (ks : List TokenKind) → Deep (count_bracket o k) (count_bang b k) (count_question q k) ks → Deep o b q (k ∷ ks)
one_later o b q k ks (by_brackets n h) = by_brackets (suc n) h
one_later o b q k ks (by_bangs n h) = by_bangs (suc n) h
one_later o b q k ks (by_questions h) = by_questions (omega arith)

deep_by : (o b q : ℕ) (k : TokenKind) (ks : List TokenKind) (t : Bool) → over (count_bracket o k) (count_bang b k) (count_question q k) ≡ t → cond t true (deep_from (count_bracket o k) (count_bang b k) (count_question q k) ks) ≡ true → (deep_from (count_bracket o k) (count_bang b k) (count_question q k) ks ≡ true → Deep (count_bracket o k) (count_bang b k) (count_question q k) ks) → Deep o b q (k ∷ ks)
deep_by o b q k ks true e h next = over_true (count_bracket o k) (count_bang b k) (count_question q k) _ _ _ refl refl refl e k ks o b q refl refl refl
deep_by o b q k ks false e h next = one_later o b q k ks (next h)

deep_true : (o b q : ℕ) (ks : List TokenKind) → deep_from o b q ks ≡ true → Deep o b q ks
unfolding deep_from
deep_true o b q [] h = absurd cc
deep_true o b q (k ∷ ks) h = deep_by o b q k ks (over (count_bracket o k) (count_bang b k) (count_question q k)) refl h (deep_true (count_bracket o k) (count_bang b k) (count_question q k) ks)

earlier : (o b q : ℕ) (k : TokenKind) (ks : List TokenKind) → o ≤ MAX_DEPTH → b ≤ MAX_DEPTH → Deep o b q (k ∷ ks) → Deep (count_bracket o k) (count_bang b k) (count_question q k) ks
earlier o b q k ks lo lb (by_brackets zero h) = absurd (omega arith)
earlier o b q k ks lo lb (by_brackets (suc n) h) = by_brackets n h
earlier o b q k ks lo lb (by_bangs zero h) = absurd (omega arith)
earlier o b q k ks lo lb (by_bangs (suc n) h) = by_bangs n h
earlier o b q k ks lo lb (by_questions h) = by_questions (omega arith)

not_empty : (o b q : ℕ) → o ≤ MAX_DEPTH → b ≤ MAX_DEPTH → q ≤ MAX_DEPTH → Deep o b q [] → ⊥
not_empty o b q lo lb lq (by_brackets zero h) = omega arith
not_empty o b q lo lb lq (by_brackets (suc n) h) = omega arith
not_empty o b q lo lb lq (by_bangs zero h) = omega arith
not_empty o b q lo lb lq (by_bangs (suc n) h) = omega arith
not_empty o b q lo lb lq (by_questions h) = omega arith

shallow_by : (o b q : ℕ) (k : TokenKind) (ks : List TokenKind) (t : Bool) → over (count_bracket o k) (count_bang b k) (count_question q k) ≡ t → cond t true (deep_from (count_bracket o k) (count_bang b k) (count_question q k) ks) ≡ false → o ≤ MAX_DEPTH → b ≤ MAX_DEPTH → (deep_from (count_bracket o k) (count_bang b k) (count_question q k) ks ≡ false → count_bracket o k ≤ MAX_DEPTH → count_bang b k ≤ MAX_DEPTH → count_question q k ≤ MAX_DEPTH → Deep (count_bracket o k) (count_bang b k) (count_question q k) ks → ⊥) → Deep o b q (k ∷ ks) → ⊥
shallow_by o b q k ks true e h lo lb next d = cc
shallow_by o b q k ks false e h lo lb next d =
    let w = over_false (count_bracket o k) (count_bang b k) (count_question q k) _ _ _ refl refl refl e in
    next h w.0 w.1 w.2 (earlier o b q k ks lo lb d)

deep_false : (o b q : ℕ) (ks : List TokenKind) → deep_from o b q ks ≡ false → o ≤ MAX_DEPTH → b ≤ MAX_DEPTH → q ≤ MAX_DEPTH → Deep o b q ks → ⊥
unfolding deep_from
deep_false o b q [] h lo lb lq d = not_empty o b q lo lb lq d
deep_false o b q (k ∷ ks) h lo lb lq d = shallow_by o b q k ks (over (count_bracket o k) (count_bang b k) (count_question q k)) refl h lo lb (deep_false (count_bracket o k) (count_bang b k) (count_question q k) ks) d

of_deep : (ks : List TokenKind) → Deep 0 0 0 ks → IsTooDeep ks
of_deep ks (by_brackets n h) = brackets n h
of_deep ks (by_bangs n h) = bangs n h
of_deep ks (by_questions h) = questions (omega arith)

to_deep : (ks : List TokenKind) → IsTooDeep ks → Deep 0 0 0 ks
to_deep ks (brackets n h) = by_brackets n h
to_deep ks (bangs n h) = by_bangs n h
to_deep ks (questions h) = by_questions (omega arith)

pub too_deep : (ks : List TokenKind) → deep_from 0 0 0 ks ≡ true → IsTooDeep ks
too_deep ks h = of_deep ks (deep_true 0 0 0 ks h)

pub shallow : (ks : List TokenKind) → deep_from 0 0 0 ks ≡ false → IsTooDeep ks → ⊥
shallow ks h d = deep_false 0 0 0 ks h (omega arith) (omega arith) (omega arith) (to_deep ks d)

-- the turns of the loop
pub deep_end : (o b q : ℕ) (ts : List TokenKind) → ts ≡ [] → deep_from o b q ts ≡ false
unfolding deep_from
deep_end o b q ts e = ap (λ (w : List TokenKind). deep_from o b q w) e

pub deep_over : (o b q : ℕ) (ts : List TokenKind) (k : TokenKind) (ks : List TokenKind) (o' b' q' : ℕ) → ts ≡ k ∷ ks → o' ≡ count_bracket o k → b' ≡ count_bang b k → q' ≡ count_question q k → over o' b' q' ≡ true → deep_from o b q ts ≡ true
unfolding deep_from
deep_over o b q ts k ks o' b' q' e eo eb eq h =
    let g : over (count_bracket o k) (count_bang b k) (count_question q k) ≡ true = sym (ap (λ (x : ℕ). over x b' q') eo ∙ ap (λ (x : ℕ). over (count_bracket o k) x q') eb ∙ ap (λ (x : ℕ). over (count_bracket o k) (count_bang b k) x) eq) ∙ h in
    ap (λ (w : List TokenKind). deep_from o b q w) e ∙ ap (λ (t : Bool). cond t true (deep_from (count_bracket o k) (count_bang b k) (count_question q k) ks)) g

pub deep_on : (o b q : ℕ) (ts : List TokenKind) (k : TokenKind) (ks : List TokenKind) (o' b' q' : ℕ) → ts ≡ k ∷ ks → o' ≡ count_bracket o k → b' ≡ count_bang b k → q' ≡ count_question q k → over o' b' q' ≡ false → deep_from o b q ts ≡ deep_from o' b' q' ks
unfolding deep_from
deep_on o b q ts k ks o' b' q' e eo eb eq h =
    let same : over o' b' q' ≡ over (count_bracket o k) (count_bang b k) (count_question q k) = ap (λ (x : ℕ). over x b' q') eo ∙ ap (λ (x : ℕ). over (count_bracket o k) x q') eb ∙ ap (λ (x : ℕ). over (count_bracket o k) (count_bang b k) x) eq in
    ap (λ (w : List TokenKind). deep_from o b q w) e ∙ ap (λ (t : Bool). cond t true (deep_from (count_bracket o k) (count_bang b k) (count_question q k) ks)) (sym same ∙ h)
    ∙ sym (ap (λ (x : ℕ). deep_from x b' q' ks) eo ∙ ap (λ (x : ℕ). deep_from (count_bracket o k) x q' ks) eb ∙ ap (λ (x : ℕ). deep_from (count_bracket o k) (count_bang b k) x ks) eq)

-- where no count is over `MAX_DEPTH`
pub not_over : (o b q : ℕ) → over o b q ≡ false → (o ≤ MAX_DEPTH) × (b ≤ MAX_DEPTH) × (q ≤ MAX_DEPTH)
not_over o b q h = over_false o b q _ _ _ refl refl refl h
