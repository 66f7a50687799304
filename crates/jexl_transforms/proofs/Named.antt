-- A name among those of some items, from one of them on.
use Rattle.std.proofs.Common.{◌≡◌, ℕ, zero, suc, ◌+◌, ◌<◌, ◌≤◌, List, [], ◌∷◌, map, length, drop, Bool, true, false, ◌||◌, bytes_eq, slice_index_or, Contains, refl, sym, ap, ◌∙◌, subst, arith}
use Rattle.std.specs.Cmp.Lexicographic.{bytes_decides}
use Rattle.jexl_transforms.specs.Meaning.{has_name}

module _ {X : Type 0} (label : X → List ℕ) (name : List ℕ) where
  abbrev pub has_from : List X → ℕ → Bool
  has_from xs i = has_name name (map label (drop i xs))

  -- the item itself, or a later one
  pub from_here : (xs : List X) (i : ℕ) (d : X) → i < length xs → has_from xs i ≡ (bytes_eq name (label (slice_index_or xs i d)) || has_from xs (suc i))
  from_here [] i d h = absurd (omega arith)
  from_here (x ∷ xs) zero d h = refl
  from_here (x ∷ xs) (suc i) d h = from_here xs i d (omega arith)

  -- no item is past the last
  pub none_after : (xs : List X) (i : ℕ) → length xs ≤ i → has_from xs i ≡ false
  none_after [] zero h = refl
  none_after [] (suc i) h = refl
  none_after (x ∷ xs) zero h = absurd (omega arith)
  none_after (x ∷ xs) (suc i) h = none_after xs i (omega arith)

  -- the item's own name, as it was compared
  compared : (x : X) (text : List ℕ) (b answer : Bool) → answer ≡ bytes_eq name text → answer ≡ b → text ≡ label x → bytes_eq name (label x) ≡ b
  compared x text b answer eq is same = subst (λ t. bytes_eq name t ≡ b) same (sym eq ∙ is)

  -- a turn of a search that goes on
  pub goes_on : (xs : List X) (i : ℕ) (x : X) (text : List ℕ) (answer all : Bool) → i < length xs → all ≡ has_from xs i → x ≡ slice_index_or xs i x → answer ≡ bytes_eq name text → answer ≡ false → text ≡ label x
      → all ≡ has_from xs (i + 1)
  goes_on xs i x text answer all within so_far at eq is same =
      let next : suc i ≡ i + 1 = omega arith in
      so_far ∙ from_here xs i x within ∙ ap (λ y. bytes_eq name (label y) || has_from xs (suc i)) (sym at) ∙ ap (λ b. b || has_from xs (suc i)) (compared x text false answer eq is same) ∙ ap (has_from xs) next

  -- and of one that ends there
  pub ends_here : (xs : List X) (i : ℕ) (x : X) (text : List ℕ) (answer all : Bool) → i < length xs → all ≡ has_from xs i → x ≡ slice_index_or xs i x → answer ≡ bytes_eq name text → answer ≡ true → text ≡ label x
      → (all ≡ true) × (label x ≡ name) × Contains xs x
  ends_here xs i x text answer all within so_far at eq is same =
      let here : bytes_eq name (label x) ≡ true = compared x text true answer eq is same in
      (so_far ∙ from_here xs i x within ∙ ap (λ y. bytes_eq name (label y) || has_from xs (suc i)) (sym at) ∙ ap (λ b. b || has_from xs (suc i)) here, sym ((bytes_decides name (label x)).0 here), (i, within, sym at))
