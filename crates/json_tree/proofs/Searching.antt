-- A key among members whose keys rise.
use Rattle.std.proofs.Common.{Ordering, ◌≡◌, ◌≢◌, ℕ, zero, suc, ◌<◌, ◌≤◌, List, [], ◌∷◌, map, length, get_or, Some, None, Err, Less, Equal, Greater, inl, inr, refl, subst, arith}
use Rattle.std.specs.Cmp.Lexicographic.{slice_cmp}
use Rattle.std.specs.List.Sorted.{IsNonDecreasingBy, IsBinarySearchResult}
use Rattle.std.specs.Ordering.{nat_cmp, ordering_index}
use Rattle.std.proofs.lemmas.Bool.{cases_lt}
use Rattle.sequences.proofs.Searching.{non_decreasing}
use Rattle.sequences.proofs.Texts.{equal_texts, same_texts, lesser_texts, other_texts}
use Rattle.json_tree.specs.Json.{Json, members_of, get_member}
use Rattle.json_tree.proofs.Growing.{IsRising}
use Rattle.json_tree.proofs.Pairs.{keyed, below_at}

-- how the member's key compares with this one
abbrev pub key_order : {A : Type 0} → List ℕ → List ℕ × A → Ordering
key_order key m = slice_cmp nat_cmp m.0 key

-- the member at a place whose key is this one is the one that `get` finds
pub get_member-at : {A : Type 0} (value : A → Json) (key : List ℕ) (ms : List (List ℕ × A)) (i : ℕ) (d : List ℕ × A) → i < length ms → IsRising (map (keyed value) ms) → key_order key (get_or ms i d) ≡ Equal
    → get_member key (members_of (map (keyed value) ms)) ≡ Some (value (get_or ms i d).1)
get_member-at value key [] i d h rising e = absurd (omega arith)
get_member-at value key (m ∷ ms) zero d h rising e = rw (equal_texts m.0 key e)
get_member-at value key (m ∷ ms) (suc i) d h rising e =
    let same = same_texts (get_or ms i d).0 key e in
    let below : slice_cmp nat_cmp m.0 key ≡ Less = subst (λ k. slice_cmp nat_cmp m.0 k ≡ Less) same (below_at value m.0 ms i d (omega arith) rising.0) in
    rw (lesser_texts m.0 key below) (get_member-at value key ms i d (omega arith) rising.1 e)

-- where no key is this one, `get` finds none
get_member-none : {A : Type 0} (value : A → Json) (key : List ℕ) (ms : List (List ℕ × A)) → ((i : ℕ) (d : List ℕ × A) → i < length ms → key_order key (get_or ms i d) ≢ Equal) → get_member key (members_of (map (keyed value) ms)) ≡ None
get_member-none value key [] h = refl
get_member-none value key (m ∷ ms) h = rw (other_texts m.0 key (h 0 m (omega arith))) (get_member-none value key ms (λ i d less. h (suc i) d (omega arith)))

rises : {A : Type 0} (value : A → Json) (ms : List (List ℕ × A)) (i j : ℕ) (d : List ℕ × A) → i < j → j < length ms → IsRising (map (keyed value) ms) → slice_cmp nat_cmp (get_or ms i d).0 (get_or ms j d).0 ≡ Less
rises value [] i j d less h rising = absurd (omega arith)
rises value (m ∷ ms) i zero d less h rising = absurd (omega arith)
rises value (m ∷ ms) zero (suc j) d less h rising = below_at value m.0 ms j d (omega arith) rising.0
rises value (m ∷ ms) (suc i) (suc j) d less h rising = rises value ms i j d (omega arith) (omega arith) rising.1

pub can_search : {A : Type 0} (value : A → Json) (key : List ℕ) (ms : List (List ℕ × A)) → IsRising (map (keyed value) ms) → IsNonDecreasingBy (λ m. ordering_index (key_order key m)) ms
can_search {A} value key ms rising = non_decreasing (λ (m : List ℕ × A). m.0) key ms (λ i j d less h. rises value ms i j d less h rising)

less≢equal : (o : Ordering) → o ≡ Less → o ≢ Equal
less≢equal o e f = cc

greater≢equal : (o : Ordering) → o ≡ Greater → o ≢ Equal
greater≢equal o e f = cc

-- what a binary search that finds no member says
pub get_member-absent : {A : Type 0} (value : A → Json) (key : List ℕ) (ms : List (List ℕ × A)) (i : ℕ) → IsRising (map (keyed value) ms) → IsBinarySearchResult (key_order key) ms (Err i) → get_member key (members_of (map (keyed value) ms)) ≡ None
get_member-absent value key ms i rising h =
    let point = h (can_search value key ms rising) in
    get_member-none value key ms (λ j d less. elim (cases_lt j i) [
      | inl before ↦ less≢equal _ (point.0 j d (omega arith) before)
      | inr after ↦ greater≢equal _ (point.1 j d after less)
    ])
