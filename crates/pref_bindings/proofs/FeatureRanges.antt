-- The bindings of a feature stand beside one another where they are in order.
use Rattle.std.proofs.Common.{Ordering, ◌≡◌, ℕ, zero, suc, ◌-◌, ◌<◌, ◌≤◌, Bool, true, false, cond, List, [], ◌∷◌, length, get_or, take, drop, Less, Equal, Greater, inl, inr, refl, sym, ap, ◌∙◌, subst, arith}
use Rattle.std.specs.Prelude.{not, bytes_eq}
use Rattle.std.specs.List.{AllByRecursion, filter}
use Rattle.std.specs.List.Sorted.{IsPartitionedBy, IsPartitionPoint, IsStrictlySortedBy}
use Rattle.std.specs.Cmp.Lexicographic.{bytes_decides}
use Rattle.std.specs.Ordering.{is_lt, ordering_then}
use Rattle.std.proofs.lemmas.Bool.{cases_lt}
use Rattle.std.proofs.lemmas.List.{take_all}
use Rattle.std.proofs.lemmas.Map.Keys.{Less-from_sorted}
use Rattle.sequences.proofs.Texts.{is_Less}
use Rattle.sequences.proofs.Alls.{all_at}
use Rattle.recipe_reader.specs.Payloads.{slug_cmp}
use Rattle.enrol_states.proofs.Ordered.{less_trans, same_texts, lesser_texts}
use Rattle.pref_bindings.specs.declared.bindings.Binding.{Binding}
use Rattle.pref_bindings.specs.Bindings.{AreByVariable, binding_cmp, of_feature}

-- ---- where a search ends

module _ {X : Type 0} (p : X → Bool) where
  -- whether the first passes
  kept : (x : X) (xs : List X) → p x ≡ true → filter p (x ∷ xs) ≡ x ∷ filter p xs
  kept x xs e = ap (λ c. cond c (x ∷ filter p xs) (filter p xs)) e

  left_out : (x : X) (xs : List X) → p x ≡ false → filter p (x ∷ xs) ≡ filter p xs
  left_out x xs e = ap (λ c. cond c (x ∷ filter p xs) (filter p xs)) e

  none_pass : (xs : List X) → ((k : ℕ) (d : X) → k < length xs → p (get_or xs k d) ≡ false) → filter p xs ≡ []
  none_pass [] fail = refl
  none_pass (x ∷ xs) fail = left_out x xs (fail 0 x (omega arith)) ∙ none_pass xs (λ k d less. fail (suc k) d (omega arith))

  all_stay : (xs : List X) → ((k : ℕ) (d : X) → k < length xs → p (get_or xs k d) ≡ true) → filter p xs ≡ xs
  all_stay [] pass = refl
  all_stay (x ∷ xs) pass = kept x xs (pass 0 x (omega arith)) ∙ ap (λ ys. x ∷ ys) (all_stay xs (λ k d less. pass (suc k) d (omega arith)))

  -- those up to the point pass
  pub taken : (xs : List X) (i : ℕ) → i ≤ length xs → IsPartitionPoint (λ x. p x ≡ true) (λ x. p x ≡ false) xs i → take i xs ≡ filter p xs
  taken xs zero within point = sym (none_pass xs (λ k d less. point.1 k d (omega arith) less))
  taken [] (suc i) within point = refl
  taken (x ∷ xs) (suc i) within point =
      ap (λ ys. x ∷ ys) (taken xs i (omega arith) ((λ k d least less. point.0 (suc k) d (omega arith) (omega arith)), λ k d least less. point.1 (suc k) d (omega arith) (omega arith)))
      ∙ sym (kept x xs (point.0 0 x (omega arith) (omega arith)))

module _ {X : Type 0} (p : X → Bool) where
  -- and those behind it don't
  pub dropped : (xs : List X) (i : ℕ) → i ≤ length xs → IsPartitionPoint (λ x. p x ≡ true) (λ x. p x ≡ false) xs i → drop i xs ≡ filter (λ x. not (p x)) xs
  dropped xs zero within point = sym (all_stay (λ x. not (p x)) xs (λ k d less. ap not (point.1 k d (omega arith) less)))
  dropped [] (suc i) within point = refl
  dropped (x ∷ xs) (suc i) within point =
      dropped xs i (omega arith) ((λ k d least less. point.0 (suc k) d (omega arith) (omega arith)), λ k d least less. point.1 (suc k) d (omega arith) (omega arith))
      ∙ sym (left_out (λ x. not (p x)) x xs (ap not (point.0 0 x (omega arith) (omega arith))))

pub all_behind : {X : Type 0} (xs : List X) (i : ℕ) → take (length xs - i) (drop i xs) ≡ drop i xs
all_behind xs zero = take_all (length xs - 0) xs (omega arith)
all_behind [] (suc i) = take_all (0 - suc i) [] (omega arith)
all_behind (x ∷ xs) (suc i) =
    let one_less : length (x ∷ xs) - suc i ≡ length xs - i = omega arith in
    ap (λ n. take n (drop i xs)) one_less ∙ all_behind xs i

-- ---- features in order

most_feature : (a b : List ℕ) (o v : Ordering) → slug_cmp a b ≡ o → ordering_then o v ≡ Less → (f : List ℕ) → slug_cmp b f ≡ Less → slug_cmp a f ≡ Less
most_feature a b Less v e less f below = less_trans a b f e below
most_feature a b Equal v e less f below = subst (λ t. slug_cmp t f ≡ Less) (sym (same_texts a b e)) below
most_feature a b Greater v e less f below = absurd cc

same_feature : (a b : List ℕ) (o v : Ordering) → slug_cmp a b ≡ o → ordering_then o v ≡ Less → is_lt (slug_cmp a b) ≡ false → a ≡ b
same_feature a b Less v e less apart = let two : true ≡ false = sym (ap is_lt e) ∙ apart in absurd cc
same_feature a b Equal v e less apart = same_texts a b e
same_feature a b Greater v e less apart = absurd cc

abbrev pub is_below : List ℕ → Binding → Bool
is_below feature b = is_lt (slug_cmp b.feature feature)

pub below_parted : (feature : List ℕ) (bs : List Binding) → AreByVariable bs → IsPartitionedBy (is_below feature) bs
below_parted feature bs order i j d most within is =
    elim (cases_lt i j) [
      | inl less ↦
          let a = get_or bs i d in
          let b = get_or bs j d in
          ap is_lt (most_feature a.feature b.feature (slug_cmp a.feature b.feature) (slug_cmp a.variable b.variable) refl (Less-from_sorted binding_cmp bs i j d order less within) feature (is_Less (slug_cmp b.feature feature) is))
      | inr least ↦ let same : j ≡ i = omega arith in subst (λ k. is_below feature (get_or bs k d) ≡ true) same is
    ]

abbrev pub is_of : List ℕ → Binding → Bool
is_of feature b = bytes_eq b.feature feature

pub own_parted : (feature : List ℕ) (bs : List Binding) → AreByVariable bs → AllByRecursion (λ b. is_below feature b ≡ false) bs → IsPartitionedBy (is_of feature) bs
own_parted feature bs order least i j d most within is =
    elim (cases_lt i j) [
      | inl less ↦
          let a = get_or bs i d in
          let b = get_or bs j d in
          let there : b.feature ≡ feature = (bytes_decides b.feature feature).0 is in
          let first : is_lt (slug_cmp a.feature b.feature) ≡ false = subst (λ f. is_lt (slug_cmp a.feature f) ≡ false) (sym there) (all_at (λ c. is_below feature c ≡ false) bs i d (omega arith) least) in
          (bytes_decides a.feature feature).1 (same_feature a.feature b.feature (slug_cmp a.feature b.feature) (slug_cmp a.variable b.variable) refl (Less-from_sorted binding_cmp bs i j d order less within) first ∙ there)
      | inr same_or ↦ let same : j ≡ i = omega arith in subst (λ k. is_of feature (get_or bs k d) ≡ true) same is
    ]

pub order_behind : (bs : List Binding) (i : ℕ) → AreByVariable bs → AreByVariable (drop i bs)
unfolding IsStrictlySortedBy
order_behind bs zero order = order
order_behind [] (suc i) order = tt
order_behind (b ∷ bs) (suc i) order = order_behind bs i order.1

-- ---- those of a feature are among those that aren't below it

pub none_below : (feature : List ℕ) (bs : List Binding) → AllByRecursion (λ b. is_below feature b ≡ false) (filter (λ b. not (is_below feature b)) bs)
none_below feature [] = tt
none_below feature (b ∷ bs) = at (is_below feature b) refl (none_below feature bs) where
  at : (c : Bool) → is_below feature b ≡ c → AllByRecursion (λ d. is_below feature d ≡ false) (filter (λ d. not (is_below feature d)) bs) → AllByRecursion (λ d. is_below feature d ≡ false) (filter (λ d. not (is_below feature d)) (b ∷ bs))
  at true e rest = subst (AllByRecursion (λ d. is_below feature d ≡ false)) (sym (left_out (λ d. not (is_below feature d)) b bs (ap not e))) rest
  at false e rest = subst (AllByRecursion (λ d. is_below feature d ≡ false)) (sym (kept (λ d. not (is_below feature d)) b bs (ap not e))) (e, rest)

below_apart : (feature : List ℕ) (b : Binding) → is_below feature b ≡ true → is_of feature b ≡ false
below_apart feature b is = lesser_texts b.feature feature (is_Less (slug_cmp b.feature feature) is)

pub own_among : (feature : List ℕ) (bs : List Binding) → of_feature feature (filter (λ b. not (is_below feature b)) bs) ≡ of_feature feature bs
own_among feature [] = refl
own_among feature (b ∷ bs) = at (is_below feature b) (is_of feature b) refl refl (own_among feature bs) where
  others : List Binding
  others = filter (λ d. not (is_below feature d)) bs

  at : (c o : Bool) → is_below feature b ≡ c → is_of feature b ≡ o → of_feature feature others ≡ of_feature feature bs → of_feature feature (filter (λ d. not (is_below feature d)) (b ∷ bs)) ≡ of_feature feature (b ∷ bs)
  at true o e same rest = ap (of_feature feature) (left_out (λ d. not (is_below feature d)) b bs (ap not e)) ∙ rest ∙ sym (left_out (is_of feature) b bs (below_apart feature b e))
  at false true e same rest =
      ap (of_feature feature) (kept (λ d. not (is_below feature d)) b bs (ap not e)) ∙ kept (is_of feature) b others same ∙ ap (λ ds. b ∷ ds) rest ∙ sym (kept (is_of feature) b bs same)
  at false false e same rest =
      ap (of_feature feature) (kept (λ d. not (is_below feature d)) b bs (ap not e)) ∙ left_out (is_of feature) b others same ∙ rest ∙ sym (left_out (is_of feature) b bs same)
