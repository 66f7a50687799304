-- A shelf that is asked for some files, and then for others, is asked for these in order.
use Rattle.std.proofs.Common.{ℕ, List, [], ◌∷◌, ◌++◌, refl, subst}
use Rattle.host_model.specs.Shelf.{IsReached}

module _ {S : Type 0} (asks : S → List ℕ → S → Type 0) where
  pub reached_once : (shelf : S) (name : List ℕ) (left : S) → asks shelf name left → IsReached asks shelf (name ∷ []) left
  reached_once shelf name left step = (left, step, refl)

  pub reached_then : (shelf : S) (names : List (List ℕ)) (middle : S) (others : List (List ℕ)) (left : S) → IsReached asks shelf names middle → IsReached asks middle others left → IsReached asks shelf (names ++ others) left
  reached_then shelf [] middle others left same rest = subst (λ s. IsReached asks s others left) same rest
  reached_then shelf (name ∷ names) middle others left (asked, step, first) rest = (asked, step, reached_then asked names middle others left first rest)
