-- Two granted wishes of one kind share no feature outside coenrolling.
use Rattle.std.proofs.Common.{◌≡◌, ◌⊎◌, ℕ, zero, suc, inl, inr, List, [], ◌∷◌, get_or, slice_get, Some, is_none, option_map, unwrap_or, Bool, true, false, not, ◌&&◌, ◌||◌, bytes_eq, Contains, refl, sym, ap, ap₂, ◌∙◌, arith, true≢false}
use Rattle.std.specs.List.{list_any}
use Rattle.std.proofs.lemmas.Slice.Eq.{bytes_eq-Decides}
use Rattle.std.proofs.lemmas.List.Folds.{list_any_at}
use Rattle.std.proofs.lemmas.Option.{slice_get-map}
use Rattle.std.proofs.lemmas.Bool.{or_right, and_from}
use Rattle.enrol_conflicts.specs.declared.candidate.Candidate.{Candidate}
use Rattle.recipe_reader.specs.Kinds.{kind_eq}
use Rattle.recipe_reader.proofs.SameKind.{kind_Decides}
use Rattle.enrol_states.specs.Order.{is_in}
use Rattle.enrol_conflicts.specs.Settlement.{is_before, clashes, any_granted, is_blocked, Settled}
use Rattle.enrol_conflicts.specs.Laws.{IsExclusive}
use Rattle.enrol_conflicts.proofs.Ranks.{is_before-either}

among_here : (g f : List ℕ) (gs : List (List ℕ)) (b : Bool) → bytes_eq g f ≡ b → (is_in gs f ≡ true → Contains gs f) → (b || is_in gs f) ≡ true → Contains (g ∷ gs) f
among_here g f gs true e k h = (zero, omega arith, (bytes_eq-Decides g f).0 e)
among_here g f gs false e k h = let c = k h in (suc c.0, omega (arith, c.1), c.2)

pub Contains-is_in : (f : List ℕ) (names : List (List ℕ)) → is_in names f ≡ true → Contains names f
Contains-is_in f [] h = absurd (true≢false (sym h))
Contains-is_in f (g ∷ gs) h = among_here g f gs (bytes_eq g f) refl (Contains-is_in f gs) h

pub is_in-Contains : (f : List ℕ) (names : List (List ℕ)) → Contains names f → is_in names f ≡ true
is_in-Contains f names c = list_any_at (λ g. bytes_eq g f) names c.0 f c.1 ((bytes_eq-Decides (get_or names c.0 f) f).1 c.2)

pub any_granted-at : {X : Type 0} (p : X → Bool) (xs : List X) (gs : List Bool) (i : ℕ) (v : X) → slice_get xs i ≡ Some v → slice_get gs i ≡ Some true → p v ≡ true → any_granted p xs gs ≡ true
any_granted-at p [] gs i v h k e = absurd (true≢false (ap is_none h))
any_granted-at p (x ∷ xs) [] i v h k e = absurd (true≢false (ap is_none k))
any_granted-at p (x ∷ xs) (g ∷ gs) zero v h k e = ap (λ b. b || any_granted p xs gs) (ap₂ (λ a b. a && b) (ap (λ o. unwrap_or o true) k) (ap p (ap (λ o. unwrap_or o x) h) ∙ e))
any_granted-at p (x ∷ xs) (g ∷ gs) (suc i) v h k e = or_right (g && p x) (any_granted p xs gs) (any_granted-at p xs gs i v h k e)

-- what a granted wish knows
pub unblocked : (ws : List Candidate) (coenrolling : List (List ℕ)) (gs : List Bool) → Settled ws coenrolling gs → (j : ℕ) (w : Candidate) → slice_get ws j ≡ Some w → slice_get gs j ≡ Some true → not (is_blocked coenrolling ws gs w) ≡ true
unblocked ws coenrolling gs s j w h k =
    let e : slice_get gs j ≡ Some (not (is_blocked coenrolling ws gs w)) = ap (λ l. slice_get l j) s ∙ slice_get-map (λ w. not (is_blocked coenrolling ws gs w)) ws j ∙ ap (option_map (λ w. not (is_blocked coenrolling ws gs w))) h in
    ap (λ o. unwrap_or o true) (sym e ∙ k)

pub not_both : (b : Bool) → not b ≡ true → b ≡ true → ⊥
not_both true h k = true≢false (sym h)
not_both false h k = true≢false (sym k)

settle_coenrolling : (b : Bool) → (not b ≡ true → ⊥) → b ≡ true
settle_coenrolling true h = refl
settle_coenrolling false h = absurd (h refl)

pub clash_from : (coenrolling : List (List ℕ)) (v w : Candidate) (f : List ℕ) → v.kind ≡ w.kind → Contains v.features f → Contains w.features f → not (is_in coenrolling f) ≡ true → clashes coenrolling v w ≡ true
clash_from coenrolling v w f k a b n =
    and_from (kind_eq v.kind w.kind) (list_any (λ g. is_in v.features g && not (is_in coenrolling g)) w.features) ((kind_Decides v.kind w.kind).1 k)
    (list_any_at (λ g. is_in v.features g && not (is_in coenrolling g)) w.features b.0 f b.1 (ap (λ g. is_in v.features g && not (is_in coenrolling g)) b.2 ∙ and_from (is_in v.features f) (not (is_in coenrolling f)) (is_in-Contains f v.features a) n))

-- where v is before w
one_way : (ws : List Candidate) (coenrolling : List (List ℕ)) (gs : List Bool) → Settled ws coenrolling gs → (i j : ℕ) (v w : Candidate) (f : List ℕ) → slice_get ws i ≡ Some v → slice_get ws j ≡ Some w → slice_get gs i ≡ Some true → slice_get gs j ≡ Some true → is_before v w ≡ true → v.kind ≡ w.kind → Contains v.features f → Contains w.features f → Contains coenrolling f
one_way ws coenrolling gs s i j v w f hv hw gv gw b k a c =
    Contains-is_in f coenrolling (settle_coenrolling (is_in coenrolling f) (λ n. not_both (is_blocked coenrolling ws gs w) (unblocked ws coenrolling gs s j w hw gw) (any_granted-at (λ u. is_before u w && clashes coenrolling u w) ws gs i v hv gv (and_from (is_before v w) (clashes coenrolling v w) b (clash_from coenrolling v w f k a c n)))))

pub exclusive : IsExclusive
exclusive ws coenrolling gs s i j v w f hv hw gv gw d k a c = by_rank (is_before-either v w (is_before w v) refl d) where
  by_rank : (is_before v w ≡ true) ⊎ (is_before w v ≡ true) → Contains coenrolling f
  by_rank (inl b) = one_way ws coenrolling gs s i j v w f hv hw gv gw b k a c
  by_rank (inr b) = one_way ws coenrolling gs s j i w v f hw hv gw gv b (sym k) c a
