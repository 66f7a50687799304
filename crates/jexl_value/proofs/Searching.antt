-- A name among names that rise.
use Rattle.std.proofs.Common.{◌≡◌, ℕ, zero, suc, ◌<◌, ◌≤◌, List, [], ◌∷◌, ◌++◌, map, length, get_or, take, drop, set, option_map, slice_get, Result, Ok, Err, Less, Equal, Greater, refl, ap, ◌∙◌, subst, arith}
use Rattle.std.proofs.lemmas.List.{length-map}
use Rattle.std.proofs.lemmas.Cmp.{tied_itself}
use Rattle.std.specs.Cmp.Lexicographic.{slice_cmp, nat_list_cmp_total, bytes_decides}
use Rattle.std.specs.List.Sorted.{IsBinarySearchResult, IsSearchInRange}
use Rattle.std.specs.Ordering.{nat_cmp}
use Rattle.json_tree.specs.Json.{Json, members_of, get_member}
use Rattle.sequences.proofs.Texts.{same_texts, lesser_texts, turned_up, turned_down}
use Rattle.json_tree.proofs.Growing.{IsRising}
use Rattle.json_tree.proofs.Pairs.{below_at}
use Rattle.json_tree.proofs.Searching.{key_order, can_search, get_member-absent}
use Rattle.jexl_value.specs.Names.{beside, with_member, IsPlace}
use Rattle.jexl_value.specs.Value.{as_json, member_of}
use Rattle.jexl_value.specs.declared.value.Value.{Value}

-- ---- where a name gets its value

with_member-at : (key : List ℕ) (x : Json) (ms : List (List ℕ × Value)) (i : ℕ) (d : List ℕ × Value) → i < length ms → IsRising (map member_of ms) → (get_or ms i d).0 ≡ key
    → with_member key x (map member_of ms) ≡ set (map member_of ms) i (key, x)
with_member-at key x [] i d h rising same = absurd (omega arith)
with_member-at key x (m ∷ ms) zero d h rising same =
    let tied : slice_cmp nat_cmp key m.0 ≡ Equal = subst (λ k. slice_cmp nat_cmp k m.0 ≡ Equal) same (tied_itself nat_list_cmp_total m.0) in
    ap (λ o. beside o (key, x) (member_of m) (map member_of ms) (with_member key x (map member_of ms))) tied
with_member-at key x (m ∷ ms) (suc i) d h rising same =
    let below : slice_cmp nat_cmp m.0 key ≡ Less = subst (λ k. slice_cmp nat_cmp m.0 k ≡ Less) same (below_at as_json m.0 ms i d (omega arith) rising.0) in
    ap (λ o. beside o (key, x) (member_of m) (map member_of ms) (with_member key x (map member_of ms))) (turned_up m.0 key below)
    ∙ ap (λ l. member_of m ∷ l) (with_member-at key x ms i d (omega arith) rising.1 same)

with_member-between : (key : List ℕ) (x : Json) (ms : List (List ℕ × Value)) (i : ℕ) → i ≤ length ms
    → ((j : ℕ) (d : List ℕ × Value) → j < i → key_order key (get_or ms j d) ≡ Less) → ((j : ℕ) (d : List ℕ × Value) → i ≤ j → j < length ms → key_order key (get_or ms j d) ≡ Greater)
    → with_member key x (map member_of ms) ≡ take i (map member_of ms) ++ (key, x) ∷ drop i (map member_of ms)
with_member-between key x [] zero h before after = refl
with_member-between key x [] (suc i) h before after = absurd (omega arith)
with_member-between key x (m ∷ ms) zero h before after =
    ap (λ o. beside o (key, x) (member_of m) (map member_of ms) (with_member key x (map member_of ms))) (turned_down m.0 key (after 0 m (omega arith) (omega arith)))
with_member-between key x (m ∷ ms) (suc i) h before after =
    ap (λ o. beside o (key, x) (member_of m) (map member_of ms) (with_member key x (map member_of ms))) (turned_up m.0 key (before 0 m (omega arith)))
    ∙ ap (λ l. member_of m ∷ l) (with_member-between key x ms i (omega arith) (λ j d less. before (suc j) d (omega arith)) (λ j d most less. after (suc j) d (omega arith) (omega arith)))

get_member-place : (key : List ℕ) (ms : List (List ℕ × Value)) (i : ℕ) → i < length ms → IsRising (map member_of ms) → ((d : List ℕ × Value) → (get_or ms i d).0 ≡ key)
    → get_member key (members_of (map member_of ms)) ≡ option_map (λ m. m.1) (slice_get (map member_of ms) i)
get_member-place key [] i h rising same = absurd (omega arith)
get_member-place key (m ∷ ms) zero h rising same = rw ((bytes_decides m.0 key).1 (same m))
get_member-place key (m ∷ ms) (suc i) h rising same =
    let below : slice_cmp nat_cmp m.0 key ≡ Less = subst (λ k. slice_cmp nat_cmp m.0 k ≡ Less) (same m) (below_at as_json m.0 ms i m (omega arith) rising.0) in
    rw (lesser_texts m.0 key below) (get_member-place key ms i (omega arith) rising.1 same)

with_member-set : (key : List ℕ) (x : Json) (ms : List (List ℕ × Value)) (i : ℕ) → i < length ms → IsRising (map member_of ms) → ((d : List ℕ × Value) → (get_or ms i d).0 ≡ key)
    → with_member key x (map member_of ms) ≡ set (map member_of ms) i (key, x)
with_member-set key x [] i h rising same = absurd (omega arith)
with_member-set key x (m ∷ ms) i h rising same = with_member-at key x (m ∷ ms) i m h rising (same m)

-- what a binary search answers is the place
pub place_of : (key : List ℕ) (ms : List (List ℕ × Value)) (r : Result ℕ ℕ) → IsRising (map member_of ms) → IsSearchInRange r (length ms) → IsBinarySearchResult (key_order key) ms r → IsPlace key (map member_of ms) r
place_of key ms (Ok i) rising within here =
    let same : (d : List ℕ × Value) → (get_or ms i d).0 ≡ key = λ d. same_texts (get_or ms i d).0 key (here d) in
    (omega (arith, length-map ms member_of), get_member-place key ms i within rising same, λ x. with_member-set key x ms i within rising same)
place_of key ms (Err i) rising within nowhere =
    let point = nowhere (can_search as_json key ms rising) in
    (omega (arith, length-map ms member_of), get_member-absent as_json key ms i rising nowhere, λ x. with_member-between key x ms i within (λ j d less. point.0 j d (omega arith) less) point.1)
