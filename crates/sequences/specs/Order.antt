-- Texts in order by their bytes, and where one stands among items in order by a text of theirs.
use Rattle.std.specs.Prelude.{◌≡◌, ◌<◌, ◌≤◌, ℕ, List, length, map, take, drop}
use Rattle.std.specs.Cmp.Lexicographic.{slice_cmp}
use Rattle.std.specs.List.{AllByRecursion, HoldsAt}
use Rattle.std.specs.List.Sorted.{IsStrictlySortedBy}
use Rattle.std.specs.Ordering.{nat_cmp}
use Rattle.std.specs.declared.cmp.Ordering.{Ordering}
use Rattle.std.specs.declared.cmp.Ordering.TheVariants.{Equal, Less}

abbrev pub text_cmp : List ℕ → List ℕ → Ordering
text_cmp a b = slice_cmp nat_cmp a b

-- each text is below those after it
abbrev pub Rise : List (List ℕ) → Type 0
Rise ts = IsStrictlySortedBy text_cmp ts

-- each text is above s
abbrev pub AreAbove : List ℕ → List (List ℕ) → Type 0
AreAbove s ts = AllByRecursion (λ t. text_cmp s t ≡ Less) ts

-- each text is below s
abbrev pub AreBelow : List ℕ → List (List ℕ) → Type 0
AreBelow s ts = AllByRecursion (λ t. text_cmp t s ≡ Less) ts

-- the item at this place has the text s
pub record HasTextAt {X : Type 0} (text : X → List ℕ) (s : List ℕ) (xs : List X) (place : ℕ) : Type 0 where
  pub within : place < length xs
  pub same : HoldsAt (λ (x : X). text_cmp (text x) s ≡ Equal) xs place

-- no item has the text s, and one that has it belongs before the item at this place
pub record BelongsAt {X : Type 0} (text : X → List ℕ) (s : List ℕ) (xs : List X) (place : ℕ) : Type 0 where
  pub within : place ≤ length xs
  pub below : AreBelow s (take place (map text xs))
  pub above : AreAbove s (drop place (map text xs))
