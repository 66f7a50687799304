-- What a binary search among recipes in order by slug says.
use Rattle.std.proofs.Common.{Ordering, ◌≡◌, ℕ, zero, suc, ◌<◌, ◌≤◌, List, [], ◌∷◌, true, length, get_or, take, drop, Less, Greater, Result, Ok, Err, arith}
use Rattle.std.specs.Prelude.{IfOk, IfErr, slice_get}
use Rattle.std.specs.List.Sorted.{IsNonDecreasingBy, IsBinarySearchResult, IsSearchInRange}
use Rattle.std.specs.Ordering.{ordering_index}
use Rattle.sequences.proofs.Searching.{non_decreasing}
use Rattle.sequences.proofs.Texts.{turned_down}
use Rattle.recipe_reader.specs.declared.recipe.Recipe.{Recipe}
use Rattle.recipe_reader.specs.Payloads.{slug_cmp, AreAbove, AreBelow, AreInOrder, has_slug, recipe_with, IsPlace}
use Rattle.recipe_reader.proofs.Places.{above_at, has_at, with_at}

-- how the recipe's slug compares with this one
abbrev pub slug_order : List ℕ → Recipe → Ordering
slug_order s r = slug_cmp r.slug s

rises : (rs : List Recipe) (i j : ℕ) (d : Recipe) → i < j → j < length rs → AreInOrder rs → slug_cmp (get_or rs i d).slug (get_or rs j d).slug ≡ Less
rises [] i j d less h order = absurd (omega arith)
rises (r ∷ rs) i zero d less h order = absurd (omega arith)
rises (r ∷ rs) zero (suc j) d less h order = above_at r.slug rs j d (omega arith) order.0
rises (r ∷ rs) (suc i) (suc j) d less h order = rises rs i j d (omega arith) (omega arith) order.1

can_search : (s : List ℕ) (rs : List Recipe) → AreInOrder rs → IsNonDecreasingBy (λ r. ordering_index (slug_order s r)) rs
can_search s rs order = non_decreasing (λ (r : Recipe). r.slug) s rs (λ i j d less h. rises rs i j d less h order)

below_of : (s : List ℕ) (rs : List Recipe) (i : ℕ) → ((j : ℕ) (d : Recipe) → j < length rs → j < i → slug_order s (get_or rs j d) ≡ Less) → AreBelow s (take i rs)
below_of s [] zero h = tt
below_of s [] (suc i) h = tt
below_of s (r ∷ rs) zero h = tt
below_of s (r ∷ rs) (suc i) h = (h 0 r (omega arith) (omega arith), below_of s rs i (λ j d less before. h (suc j) d (omega arith) (omega arith)))

above_of : (s : List ℕ) (rs : List Recipe) (i : ℕ) → ((j : ℕ) (d : Recipe) → i ≤ j → j < length rs → slug_order s (get_or rs j d) ≡ Greater) → AreAbove s (drop i rs)
above_of s [] zero h = tt
above_of s [] (suc i) h = tt
above_of s (r ∷ rs) zero h = (turned_down r.slug s (h 0 r (omega arith) (omega arith)), above_of s rs 0 (λ j d least less. h (suc j) d (omega arith) (omega arith)))
above_of s (r ∷ rs) (suc i) h = above_of s rs i (λ j d least less. h (suc j) d (omega arith) (omega arith))

pub place_searched : (s : List ℕ) (rs : List Recipe) (i : ℕ) → i ≤ length rs → AreInOrder rs → IsBinarySearchResult (slug_order s) rs (Err i) → IsPlace s rs i
place_searched s rs i most order h =
    let point = h (can_search s rs order) in
    (most, below_of s rs i (λ j d less before. point.0 j d (omega arith) before), above_of s rs i (λ j d least less. point.1 j d least less))

-- the recipe at the place that is found
pub found : (s : List ℕ) (rs : List Recipe) (i : ℕ) → i < length rs → AreInOrder rs → IsBinarySearchResult (slug_order s) rs (Ok i) → (recipe_with s rs ≡ slice_get rs i) × (has_slug s rs ≡ true)
found s [] i within order h = absurd (omega (arith, within))
found s (r ∷ rs) i within order h = (with_at s (r ∷ rs) i r within order (h r), has_at s (r ∷ rs) i r within (h r))

pub searched_found : (s : List ℕ) (rs : List Recipe) (o : Result ℕ ℕ) → AreInOrder rs → IsSearchInRange o (length rs) → IsBinarySearchResult (slug_order s) rs o → IfOk o (λ i. recipe_with s rs ≡ slice_get rs i)
searched_found s rs (Ok i) order within h = (found s rs i within order h).0
searched_found s rs (Err i) order within h = tt

pub searched_there : (s : List ℕ) (rs : List Recipe) (o : Result ℕ ℕ) → AreInOrder rs → IsSearchInRange o (length rs) → IsBinarySearchResult (slug_order s) rs o → IfOk o (λ _. has_slug s rs ≡ true)
searched_there s rs (Ok i) order within h = (found s rs i within order h).1
searched_there s rs (Err i) order within h = tt

pub searched_absent : (s : List ℕ) (rs : List Recipe) (o : Result ℕ ℕ) → AreInOrder rs → IsSearchInRange o (length rs) → IsBinarySearchResult (slug_order s) rs o → IfErr o (λ i. IsPlace s rs i)
searched_absent s rs (Ok i) order within h = tt
searched_absent s rs (Err i) order within h = place_searched s rs i within order h
