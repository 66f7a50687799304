-- Lists in order with the same members are one.
use Rattle.std.proofs.Common.{◌≡◌, ℕ, zero, suc, ◌<◌, List, [], ◌∷◌, length, get_or, ◌⊎◌, inl, inr, refl, sym, ap, ap₂, ◌∙◌, subst, arith, Contains, IsPermutation, Ordering, Less, Equal, Greater}
use Rattle.std.specs.Cmp.{IsTotalOrder}
use Rattle.std.specs.List.{AllByRecursion}
use Rattle.std.specs.List.Sorted.{IsStrictlySortedBy}
use Rattle.std.specs.Ordering.{ordering_reverse}
use Rattle.std.proofs.lemmas.Cmp.{tied_itself}
use Rattle.std.proofs.lemmas.List.Sorted.{Contains-permutation, IsPermutation-sym}

module _ {X : Type 0} where
  abbrev Has : List X → X → Type 0
  Has [] z = ⊥
  Has (x ∷ xs) z = (x ≡ z) ⊎ Has xs z

  has_of : (xs : List X) (z : X) (k : ℕ) → k < length xs → get_or xs k z ≡ z → Has xs z
  has_of [] z k h e = absurd (omega arith)
  has_of (x ∷ xs) z zero h e = inl e
  has_of (x ∷ xs) z (suc k) h e = inr (has_of xs z k (omega arith) e)

  contains_of : (xs : List X) (z : X) → Has xs z → Contains xs z
  contains_of [] z h = absurd h
  contains_of (x ∷ xs) z (inl e) = (0, omega arith, e)
  contains_of (x ∷ xs) z (inr h) = let k = contains_of xs z h in (suc k.0, more k.0 k.1, k.2) where
    more : (k : ℕ) → k < length xs → suc k < length (x ∷ xs)
    more k h = omega arith

  kept : (xs ys : List X) → IsPermutation xs ys → (z : X) → Has xs z → Has ys z
  kept xs ys perm z h = let k = Contains-permutation xs ys z perm (contains_of xs z h) in has_of ys z k.0 k.1 k.2

  pub member_of : (P : X → Type 0) (xs : List X) (z : X) → AllByRecursion P xs → Has xs z → P z
  member_of P [] z all h = absurd h
  member_of P (x ∷ xs) z all (inl e) = subst P e all.0
  member_of P (x ∷ xs) z all (inr h) = member_of P xs z all.1 h

  module _ {R : X → X → Ordering} (o : IsTotalOrder R) where
    both : (x y : X) → R x y ≡ Less → R y x ≡ Less → ⊥
    both x y h k = let e : R x y ≡ Greater = o.antisymm x y ∙ ap ordering_reverse k in cc

    itself : (x y : X) → R x y ≡ Less → x ≡ y → ⊥
    itself x y h e = let t : R x x ≡ Equal = tied_itself o x in let f : R x x ≡ Less = subst (λ z. R x z ≡ Less) (sym e) h in cc

    heads : (x y : X) (xs ys : List X) → AllByRecursion (λ z. R x z ≡ Less) xs → AllByRecursion (λ z. R y z ≡ Less) ys → Has (y ∷ ys) x → Has (x ∷ xs) y → x ≡ y
    heads x y xs ys s t (inl e) k = sym e
    heads x y xs ys s t (inr h) (inl e) = e
    heads x y xs ys s t (inr h) (inr k) = absurd (both x y (member_of (λ z. R x z ≡ Less) xs y s k) (member_of (λ z. R y z ≡ Less) ys x t h))

    tail_of : (x y z : X) (xs ys : List X) → x ≡ y → AllByRecursion (λ z. R x z ≡ Less) xs → Has xs z → Has (y ∷ ys) z → Has ys z
    tail_of x y z xs ys e s h (inl f) = absurd (itself x z (member_of (λ z. R x z ≡ Less) xs z s h) (e ∙ f))
    tail_of x y z xs ys e s h (inr k) = k

    same : (xs ys : List X) → IsStrictlySortedBy R xs → IsStrictlySortedBy R ys → ((z : X) → Has xs z → Has ys z) → ((z : X) → Has ys z → Has xs z) → xs ≡ ys
    unfolding IsStrictlySortedBy
    same [] [] s t h k = refl
    same [] (y ∷ ys) s t h k = absurd (k y (inl refl))
    same (x ∷ xs) [] s t h k = absurd (h x (inl refl))
    same (x ∷ xs) (y ∷ ys) s t h k =
        let e : x ≡ y = heads x y xs ys s.0 t.0 (h x (inl refl)) (k y (inl refl)) in
        ap₂ (λ z zs. z ∷ zs) e (same xs ys s.1 t.1 (λ z m. tail_of x y z xs ys e s.0 m (h z (inr m))) (λ z m. tail_of y x z ys xs (sym e) t.0 m (k z (inr m))))

    pub same_in_order : (xs ys : List X) → IsStrictlySortedBy R xs → IsStrictlySortedBy R ys → IsPermutation xs ys → xs ≡ ys
    same_in_order xs ys s t perm = same xs ys s t (kept xs ys perm) (kept ys xs (IsPermutation-sym xs ys perm))
