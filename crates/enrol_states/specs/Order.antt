-- Texts in order.
pub use Rattle.sequences.specs.Order.{Rise, AreAbove, AreBelow}
use Rattle.std.specs.Prelude.{ℕ, Bool, List, take, drop, bytes_eq}
use Rattle.std.specs.List.{list_any}

-- s belongs before the i-th text
pub record IsPlace (s : List ℕ) (ts : List (List ℕ)) (i : ℕ) : Type 0 where
  pub below : AreBelow s (take i ts)
  pub above : AreAbove s (drop i ts)

-- whether the text is one of the list
abbrev pub is_in : List (List ℕ) → List ℕ → Bool
is_in ts t = list_any (λ u. bytes_eq u t) ts
