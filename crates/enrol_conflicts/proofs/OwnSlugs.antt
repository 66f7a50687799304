-- Wishes in order by slug have slugs of their own.
use Rattle.std.proofs.Common.{◌≡◌, ◌<◌, ◌+◌, ◌⊎◌, inl, inr, ℕ, zero, suc, List, [], ◌∷◌, length, get_or, map, slice_get, Some, option_map, Bool, true, false, Less, is_eq, is_lt, nat_cmp, refl, sym, ap, ap₂, ◌∙◌, arith, true≢false}
use Rattle.std.specs.List.{IsAllAdjacentAnswer}
use Rattle.std.proofs.lemmas.List.{length-map}
use Rattle.std.specs.List.Sorted.{IsStrictlySortedBy}
use Rattle.std.specs.Ordering.{eq_by_cmp}
use Rattle.std.specs.Cmp.Lexicographic.{slice_cmp}
use Rattle.std.proofs.lemmas.Cmp.{nat_list_cmp_total, tied_itself}
use Rattle.std.proofs.lemmas.Map.Keys.{IsDistinct-from_sorted, apart_from_distinct, sorted_from_all_adjacent, Less-from_sorted}
use Rattle.std.proofs.lemmas.Option.{slice_get-map, slice_get_within, get_or_from_slice_get}
use Rattle.std.proofs.lemmas.Bool.{cases_order}
use Rattle.sequences.proofs.Texts.{is_Less}
use Rattle.enrol_conflicts.specs.declared.candidate.Candidate.{Candidate}
use Rattle.enrol_conflicts.specs.Laws.{DifferInOrder}

slug_at : (ws : List Candidate) (i : ℕ) (v : Candidate) → slice_get ws i ≡ Some v → slice_get (map (λ (c : Candidate). c.slug) ws) i ≡ Some v.slug
slug_at ws i v h = slice_get-map (λ (c : Candidate). c.slug) ws i ∙ ap (option_map (λ (c : Candidate). c.slug)) h

apart : (ws : List Candidate) → IsStrictlySortedBy (slice_cmp nat_cmp) (map (λ (c : Candidate). c.slug) ws) → (i j : ℕ) (v w : Candidate) → i < j → slice_get ws i ≡ Some v → slice_get ws j ≡ Some w → v.slug ≡ w.slug → ⊥
apart ws s i j v w l a b e =
    let ks = map (λ (c : Candidate). c.slug) ws in
    let p : get_or ks i v.slug ≡ v.slug = get_or_from_slice_get ks i v.slug v.slug (slug_at ws i v a) in
    let q : get_or ks j v.slug ≡ w.slug = get_or_from_slice_get ks j w.slug v.slug (slug_at ws j w b) in
    let d : eq_by_cmp (slice_cmp nat_cmp) (get_or ks i v.slug) (get_or ks j v.slug) ≡ false = apart_from_distinct (eq_by_cmp (slice_cmp nat_cmp)) ks i j v.slug (IsDistinct-from_sorted (slice_cmp nat_cmp) ks s) l (slice_get_within ks j w.slug (slug_at ws j w b)) in
    true≢false (sym (ap is_eq (tied_itself nat_list_cmp_total v.slug)) ∙ ap (λ k. is_eq (slice_cmp nat_cmp v.slug k)) (e ∙ sym q) ∙ ap (λ k. is_eq (slice_cmp nat_cmp k (get_or ks j v.slug))) (sym p) ∙ d)

pub own_slugs : DifferInOrder
own_slugs ws s i j v w a b e = from (cases_order i j) where
  from : (i ≡ j) ⊎ ((i < j) ⊎ (j < i)) → i ≡ j
  from (inl q) = q
  from (inr (inl l)) = absurd (apart ws s i j v w l a b e)
  from (inr (inr l)) = absurd (apart ws s j i w v l b a (sym e))

some_at : {X : Type 0} (xs : List X) (k : ℕ) → k < length xs → (x : X) × (slice_get xs k ≡ Some x)
some_at [] k h = absurd (none h) where
  none : k < 0 → ⊥
  none h = omega (arith, h)
some_at (x ∷ xs) zero h = (x, refl)
some_at (x ∷ xs) (suc k) h = some_at xs k (omega (arith, h))

-- what a test of neighbours says
pub rise : (ws : List Candidate) (r : Bool) → IsAllAdjacentAnswer (λ (v w : Candidate) b. b ≡ is_lt (slice_cmp nat_cmp v.slug w.slug)) ws r → r ≡ true → IsStrictlySortedBy (slice_cmp nat_cmp) (map (λ (c : Candidate). c.slug) ws)
rise ws false h e = absurd (true≢false (sym e))
rise ws true h e = sorted_from_all_adjacent nat_list_cmp_total (map (λ (c : Candidate). c.slug) ws) [] each where
  each : (k : ℕ) → k + 1 < length (map (λ (c : Candidate). c.slug) ws) → slice_cmp nat_cmp (get_or (map (λ (c : Candidate). c.slug) ws) k []) (get_or (map (λ (c : Candidate). c.slug) ws) (k + 1) []) ≡ Less
  each k l =
      let n : length (map (λ (c : Candidate). c.slug) ws) ≡ length ws = length-map ws (λ (c : Candidate). c.slug) in
      let v = some_at ws k (omega (arith, n, l)) in
      let w = some_at ws (k + 1) (omega (arith, n, l)) in
      let a : get_or (map (λ (c : Candidate). c.slug) ws) k [] ≡ v.0.slug = get_or_from_slice_get (map (λ (c : Candidate). c.slug) ws) k v.0.slug [] (slug_at ws k v.0 v.1) in
      let b : get_or (map (λ (c : Candidate). c.slug) ws) (k + 1) [] ≡ w.0.slug = get_or_from_slice_get (map (λ (c : Candidate). c.slug) ws) (k + 1) w.0.slug [] (slug_at ws (k + 1) w.0 w.1) in
      let p : get_or ws k v.0 ≡ v.0 = get_or_from_slice_get ws k v.0 v.0 v.1 in
      let q : get_or ws (k + 1) v.0 ≡ w.0 = get_or_from_slice_get ws (k + 1) w.0 v.0 w.1 in
      let t : true ≡ is_lt (slice_cmp nat_cmp (get_or ws k v.0).slug (get_or ws (k + 1) v.0).slug) = h k v.0 (omega (arith, n, l)) in
      ap₂ (slice_cmp nat_cmp) a b ∙ is_Less (slice_cmp nat_cmp v.0.slug w.0.slug) (sym (t ∙ ap₂ (λ (x y : Candidate). is_lt (slice_cmp nat_cmp x.slug y.slug)) p q))

-- and what it says of wishes in order
pub rise_back : (ws : List Candidate) (r : Bool) → IsAllAdjacentAnswer (λ (v w : Candidate) b. b ≡ is_lt (slice_cmp nat_cmp v.slug w.slug)) ws r → IsStrictlySortedBy (slice_cmp nat_cmp) (map (λ (c : Candidate). c.slug) ws) → r ≡ true
rise_back ws true h s = refl
rise_back ws false h s =
    let ks = map (λ (c : Candidate). c.slug) ws in
    let n : length ks ≡ length ws = length-map ws (λ (c : Candidate). c.slug) in
    let k = h.0 in
    let v = some_at ws k (omega (arith, h.1)) in
    let w = some_at ws (k + 1) h.1 in
    let a : get_or ks k [] ≡ v.0.slug = get_or_from_slice_get ks k v.0.slug [] (slug_at ws k v.0 v.1) in
    let b : get_or ks (k + 1) [] ≡ w.0.slug = get_or_from_slice_get ks (k + 1) w.0.slug [] (slug_at ws (k + 1) w.0 w.1) in
    let p : get_or ws k v.0 ≡ v.0 = get_or_from_slice_get ws k v.0 v.0 v.1 in
    let q : get_or ws (k + 1) v.0 ≡ w.0 = get_or_from_slice_get ws (k + 1) w.0 v.0 w.1 in
    let t : false ≡ is_lt (slice_cmp nat_cmp (get_or ws k v.0).slug (get_or ws (k + 1) v.0).slug) = h.2 v.0 in
    let l : slice_cmp nat_cmp (get_or ks k []) (get_or ks (k + 1) []) ≡ Less = Less-from_sorted (slice_cmp nat_cmp) ks k (k + 1) [] s (omega arith) (omega (arith, n, h.1)) in
    t ∙ ap₂ (λ (x y : Candidate). is_lt (slice_cmp nat_cmp x.slug y.slug)) p q ∙ sym (ap₂ (λ x y. is_lt (slice_cmp nat_cmp x y)) a b) ∙ ap is_lt l
