-- Searches among items in order by a text of theirs.
use Rattle.std.proofs.Common.{Ordering, ◌≡◌, ℕ, zero, suc, ◌<◌, ◌≤◌, List, [], ◌∷◌, map, length, get_or, take, drop, Result, Ok, Err, IfOk, IfErr, Less, Equal, Greater, inl, inr, refl, sym, ◌∙◌, subst, arith}
use Rattle.std.specs.List.{AllByRecursion}
use Rattle.std.specs.Cmp.{alike_right}
use Rattle.std.specs.Cmp.Lexicographic.{nat_list_cmp_total}
use Rattle.std.specs.List.Sorted.{IsNonDecreasingBy, IsBinarySearchResult, IsSearchInRange, IsStrictlySortedBy}
use Rattle.std.specs.Ordering.{ordering_index}
use Rattle.std.proofs.lemmas.Bool.{cases_lt}
use Rattle.sequences.specs.Order.{text_cmp, Rise, AreAbove, AreBelow, HasTextAt, BelongsAt}
use Rattle.sequences.proofs.Texts.{less_trans, turned_down}

-- how an item's text compares with this one
abbrev pub order_by : {X : Type 0} → (X → List ℕ) → List ℕ → X → Ordering
order_by text s x = text_cmp (text x) s

-- what holds of each text holds of an item's
pub text_at : {X : Type 0} (P : List ℕ → Type 0) (text : X → List ℕ) (xs : List X) (i : ℕ) (d : X) → i < length xs → AllByRecursion P (map text xs) → P (text (get_or xs i d))
text_at P text [] i d less all = absurd (omega arith)
text_at P text (x ∷ xs) zero d less all = all.0
text_at P text (x ∷ xs) (suc i) d less all = text_at P text xs i d (omega arith) all.1

pub rises_by : {X : Type 0} (text : X → List ℕ) (xs : List X) (i j : ℕ) (d : X) → i < j → j < length xs → Rise (map text xs) → text_cmp (text (get_or xs i d)) (text (get_or xs j d)) ≡ Less
unfolding IsStrictlySortedBy
rises_by text [] i j d less h rise = absurd (omega arith)
rises_by text (x ∷ xs) i zero d less h rise = absurd (omega arith)
rises_by text (x ∷ xs) zero (suc j) d less h rise = text_at (λ t. text_cmp (text x) t ≡ Less) text xs j d (omega arith) rise.0
rises_by text (x ∷ xs) (suc i) (suc j) d less h rise = rises_by text xs i j d (omega arith) (omega arith) rise.1

index_most : (o : Ordering) → ordering_index o ≤ 2
index_most Less = omega arith
index_most Equal = omega arith
index_most Greater = omega arith

index_rises : (a b s : List ℕ) (o : Ordering) → text_cmp b s ≡ o → text_cmp a b ≡ Less → ordering_index (text_cmp a s) ≤ ordering_index o
index_rises a b s Less e less = rw (less_trans a b s less e) (omega arith)
index_rises a b s Equal e less = let first : text_cmp a s ≡ Less = sym (alike_right nat_list_cmp_total b s a e) ∙ less in rw first (omega arith)
index_rises a b s Greater e less = index_most (text_cmp a s)

-- texts that rise from place to place can be searched
pub non_decreasing : {X : Type 0} (text : X → List ℕ) (s : List ℕ) (xs : List X) → ((i j : ℕ) (d : X) → i < j → j < length xs → text_cmp (text (get_or xs i d)) (text (get_or xs j d)) ≡ Less) → IsNonDecreasingBy (λ x. ordering_index (order_by text s x)) xs
non_decreasing text s xs rises i j d most h =
    elim (cases_lt i j) [
      | inl less ↦ index_rises (text (get_or xs i d)) (text (get_or xs j d)) s _ refl (rises i j d less h)
      | inr least ↦ let same : i ≡ j = omega arith in subst (λ m. ordering_index (order_by text s (get_or xs i d)) ≤ ordering_index (order_by text s (get_or xs m d))) same (omega arith)
    ]

below_of : {X : Type 0} (text : X → List ℕ) (s : List ℕ) (xs : List X) (i : ℕ) → ((j : ℕ) (d : X) → j < length xs → j < i → order_by text s (get_or xs j d) ≡ Less) → AreBelow s (take i (map text xs))
below_of text s [] zero h = tt
below_of text s [] (suc i) h = tt
below_of text s (x ∷ xs) zero h = tt
below_of text s (x ∷ xs) (suc i) h = (h 0 x (omega arith) (omega arith), below_of text s xs i (λ j d less before. h (suc j) d (omega arith) (omega arith)))

above_of : {X : Type 0} (text : X → List ℕ) (s : List ℕ) (xs : List X) (i : ℕ) → ((j : ℕ) (d : X) → i ≤ j → j < length xs → order_by text s (get_or xs j d) ≡ Greater) → AreAbove s (drop i (map text xs))
above_of text s [] zero h = tt
above_of text s [] (suc i) h = tt
above_of text s (x ∷ xs) zero h = (turned_down (text x) s (h 0 x (omega arith) (omega arith)), above_of text s xs 0 (λ j d least less. h (suc j) d (omega arith) (omega arith)))
above_of text s (x ∷ xs) (suc i) h = above_of text s xs i (λ j d least less. h (suc j) d (omega arith) (omega arith))

-- the texts before the place of a binary search that finds no item of that text, and those from it on
pub place_around : {X : Type 0} (text : X → List ℕ) (s : List ℕ) (xs : List X) (i : ℕ) → Rise (map text xs) → IsBinarySearchResult (order_by text s) xs (Err i) → AreBelow s (take i (map text xs)) × AreAbove s (drop i (map text xs))
place_around text s xs i rise h =
    let point = h (non_decreasing text s xs (λ j k d less most. rises_by text xs j k d less most rise)) in
    (below_of text s xs i (λ j d less before. point.0 j d (omega arith) before), above_of text s xs i (λ j d least less. point.1 j d least less))

-- what a binary search answers
pub found_at : {X : Type 0} (text : X → List ℕ) (s : List ℕ) (xs : List X) (r : Result ℕ ℕ) → IsSearchInRange r (length xs) → IsBinarySearchResult (order_by text s) xs r → IfOk r (λ place. HasTextAt text s xs place)
found_at text s xs (Ok i) within here = record { within = within; same = here }
found_at text s xs (Err i) within here = tt

pub missed_at : {X : Type 0} (text : X → List ℕ) (s : List ℕ) (xs : List X) (r : Result ℕ ℕ) → Rise (map text xs) → IsSearchInRange r (length xs) → IsBinarySearchResult (order_by text s) xs r → IfErr r (λ place. BelongsAt text s xs place)
missed_at text s xs (Ok i) rise within here = tt
missed_at text s xs (Err i) rise within here =
    let around = place_around text s xs i rise here in
    record { within = within; below = around.0; above = around.1 }
