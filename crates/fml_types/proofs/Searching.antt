-- What a binary search finds among names that rise.
use Rattle.std.proofs.Common.{Ordering, ◌≡◌, ℕ, zero, suc, ◌<◌, ◌≤◌, List, [], ◌∷◌, length, get_or, take, drop, Some, Result, Ok, Err, IfOk, IfErr, Less, Greater, arith}
use Rattle.std.specs.Cmp.Lexicographic.{slice_cmp}
use Rattle.std.specs.List.Sorted.{IsNonDecreasingBy, IsBinarySearchResult, IsSearchInRange}
use Rattle.std.specs.Ordering.{nat_cmp, ordering_index}
use Rattle.sequences.proofs.Searching.{non_decreasing}
use Rattle.sequences.proofs.Texts.{turned_down}
use Rattle.fml_types.specs.Named.{IsAbove, IsBelow, AreRising, IsPlace, place}
use Rattle.fml_types.proofs.Places.{below_at, place_at}

-- how the pair's name compares with this one
abbrev pub name_order : {T : Type 0} → List ℕ → List ℕ × T → Ordering
name_order name p = slice_cmp nat_cmp p.0 name

rises : {T : Type 0} (ps : List (List ℕ × T)) (i j : ℕ) (d : List ℕ × T) → i < j → j < length ps → AreRising ps → slice_cmp nat_cmp (get_or ps i d).0 (get_or ps j d).0 ≡ Less
rises [] i j d less h rising = absurd (omega arith)
rises (p ∷ ps) i zero d less h rising = absurd (omega arith)
rises (p ∷ ps) zero (suc j) d less h rising = below_at p.0 ps j d (omega arith) rising.0
rises (p ∷ ps) (suc i) (suc j) d less h rising = rises ps i j d (omega arith) (omega arith) rising.1

can_search : {T : Type 0} (name : List ℕ) (ps : List (List ℕ × T)) → AreRising ps → IsNonDecreasingBy (λ p. ordering_index (name_order name p)) ps
can_search {T} name ps rising = non_decreasing (λ (p : List ℕ × T). p.0) name ps (λ i j d less h. rises ps i j d less h rising)

above_all : {T : Type 0} (name : List ℕ) (ps : List (List ℕ × T)) (i : ℕ) → i ≤ length ps → ((j : ℕ) (d : List ℕ × T) → j < i → name_order name (get_or ps j d) ≡ Less) → IsAbove name (take i ps)
above_all name ps zero h before = tt
above_all name [] (suc i) h before = absurd (omega arith)
above_all name (p ∷ ps) (suc i) h before = (before 0 p (omega arith), above_all name ps i (omega arith) (λ j d less. before (suc j) d (omega arith)))

below_all : {T : Type 0} (name : List ℕ) (ps : List (List ℕ × T)) (i : ℕ) → ((j : ℕ) (d : List ℕ × T) → i ≤ j → j < length ps → name_order name (get_or ps j d) ≡ Greater) → IsBelow name (drop i ps)
below_all name [] zero after = tt
below_all name [] (suc i) after = tt
below_all name (p ∷ ps) zero after = (turned_down p.0 name (after 0 p (omega arith) (omega arith)), below_all name ps zero (λ j d most less. after (suc j) d (omega arith) (omega arith)))
below_all name (p ∷ ps) (suc i) after = below_all name ps i (λ j d most less. after (suc j) d (omega arith) (omega arith))

-- what a binary search answers is where the name stands, or where it belongs
pub searched : {T : Type 0} (name : List ℕ) (ps : List (List ℕ × T)) (r : Result ℕ ℕ) → AreRising ps → IsSearchInRange r (length ps) → IsBinarySearchResult (name_order name) ps r
    → IfOk r (λ i. place name ps ≡ Some i) × IfErr r (λ i. IsPlace name ps i)
searched name [] (Ok i) rising within here = absurd (omega arith)
searched name (p ∷ ps) (Ok i) rising within here = (place_at name (p ∷ ps) i p within rising (here p), tt)
searched name ps (Err i) rising within nowhere =
    let point = nowhere (can_search name ps rising) in
    (tt, (within, above_all name ps i within (λ j d less. point.0 j d (omega arith) less), below_all name ps i point.1))
