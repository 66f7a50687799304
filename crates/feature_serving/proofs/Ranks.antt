-- Layers are in a total order, in which only a layer's own slug ties; and a list in it that has no ties is in it strictly.
use Rattle.std.proofs.Common.{◌≡◌, ℕ, ◌+◌, ◌<◌, Bool, false, List, [], ◌∷◌, length, get_or, map, refl, sym, ap, ◌∙◌, subst, arith, true≢false, Ordering, Less, Equal, Greater, is_lt, is_eq, int_cmp, IsSorted, IsPermutation}
use Rattle.std.specs.Cmp.{IsTotalOrder}
use Rattle.std.specs.Cmp.Lexicographic.{options_total}
use Rattle.std.specs.List.{IsDistinct}
use Rattle.std.specs.List.Sorted.{IsStrictlySortedBy, IsSortedBy}
use Rattle.std.specs.Ordering.{ordering_then, ordering_reverse, eq_by_cmp, flip_args, on, then_cmp}
use Rattle.std.specs.Option.{option_cmp}
use Rattle.std.proofs.lemmas.List.{get_or-map, length-map}
use Rattle.std.proofs.lemmas.Cmp.{then_total, on_total, back_total, int_cmp_total, nat_cmp_total, nat_list_cmp_total}
use Rattle.std.proofs.lemmas.Map.Keys.{IsDistinct-IsPermutation, IsDistinct-from_sorted, apart_from_distinct, sorted_from_all_adjacent}
use Rattle.recipe_reader.specs.Kinds.{kind_place}
use Rattle.recipe_reader.specs.Payloads.{slug_cmp}
use Rattle.feature_serving.specs.Layers.{Layer, kind_cmp, layer_cmp}
use Rattle.feature_serving.proofs.Members.{same_in_order}

pub layer_cmp_total : IsTotalOrder layer_cmp
layer_cmp_total = then_total (then_total (on_total (λ (l : Layer). l.kind) (back_total (on_total kind_place nat_cmp_total))) (on_total (λ (l : Layer). l.published_at) (options_total int_cmp_total))) (on_total (λ (l : Layer). l.slug) nat_list_cmp_total)

then_tied : (o q : Ordering) → ordering_then o q ≡ Equal → q ≡ Equal
then_tied Less q h = absurd (cc)
then_tied Equal q h = h
then_tied Greater q h = absurd (cc)

pub tied_slug : (l m : Layer) → layer_cmp l m ≡ Equal → slug_cmp l.slug m.slug ≡ Equal
tied_slug l m h = then_tied (then_cmp (on (λ (l : Layer). l.kind) (flip_args kind_cmp)) (on (λ (l : Layer). l.published_at) (option_cmp int_cmp)) l m) (slug_cmp l.slug m.slug) h

-- what isn't before another and doesn't tie with it is behind it
pub behind : {X : Type 0} {R : X → X → Ordering} → IsTotalOrder R → (x y : X) → is_lt (R x y) ≡ false → is_eq (R x y) ≡ false → R y x ≡ Less
behind {R} o x y h k = at (R x y) refl h k where
  at : (q : Ordering) → R x y ≡ q → is_lt q ≡ false → is_eq q ≡ false → R y x ≡ Less
  at Less e h k = absurd (true≢false h)
  at Equal e h k = absurd (true≢false k)
  at Greater e h k = o.antisymm y x ∙ ap ordering_reverse e

module _ {X : Type 0} {R : X → X → Ordering} (o : IsTotalOrder R) where
  rising : (xs : List X) → IsSorted R xs → IsDistinct (eq_by_cmp R) xs → IsStrictlySortedBy R xs
  unfolding IsStrictlySortedBy
  rising [] sorted apart = tt
  rising (x ∷ xs) sorted apart = sorted_from_all_adjacent o (x ∷ xs) x adjacent where
    adjacent : (k : ℕ) → k + 1 < length (x ∷ xs) → R (get_or (x ∷ xs) k x) (get_or (x ∷ xs) (k + 1) x) ≡ Less
    adjacent k h =
        let a = get_or (x ∷ xs) k x in let b = get_or (x ∷ xs) (k + 1) x in
        behind o b a (sorted k x (omega arith) h) (ap is_eq (o.antisymm b a) ∙ turned (R a b) (apart_from_distinct (eq_by_cmp R) (x ∷ xs) k (k + 1) x apart (omega arith) h)) where
          turned : (q : Ordering) → is_eq q ≡ false → is_eq (ordering_reverse q) ≡ false
          turned Less h = h
          turned Equal h = h
          turned Greater h = h

  flips : (x y : X) → eq_by_cmp R x y ≡ eq_by_cmp R y x
  flips x y = ap is_eq (o.antisymm x y) ∙ turned (R y x) where
    turned : (q : Ordering) → is_eq (ordering_reverse q) ≡ is_eq q
    turned Less = refl
    turned Equal = refl
    turned Greater = refl

  -- a sorted list is the one list that has its items in strict order
  pub sorted_is : (xs ys : List X) → IsStrictlySortedBy R xs → IsPermutation xs ys → IsSorted R ys → ys ≡ xs
  sorted_is xs ys strict perm sorted = sym (same_in_order o xs ys strict (rising ys sorted (IsDistinct-IsPermutation (eq_by_cmp R) flips xs ys perm (IsDistinct-from_sorted R xs strict))) perm)

module _ {X Y : Type 0} (view : X → Y) (lt : Y → Y → Bool) where
  pub sorted_view : (xs : List X) → IsSortedBy (λ a b. lt (view a) (view b)) xs → IsSortedBy lt (map view xs)
  sorted_view [] sorted k d low h = absurd (omega arith)
  sorted_view (x ∷ xs) sorted k d low h =
      let here : k + 1 < length (x ∷ xs) = subst (λ n. k + 1 < n) (length-map (x ∷ xs) view) h in
      let a : get_or (map view (x ∷ xs)) (k + 1) d ≡ view (get_or (x ∷ xs) (k + 1) x) = get_or-map view (x ∷ xs) (k + 1) x d here in
      let b : get_or (map view (x ∷ xs)) k d ≡ view (get_or (x ∷ xs) k x) = get_or-map view (x ∷ xs) k x d (omega arith) in
      ap (λ y. lt y (get_or (map view (x ∷ xs)) k d)) a ∙ ap (λ y. lt (view (get_or (x ∷ xs) (k + 1) x)) y) b ∙ sorted k x low here
