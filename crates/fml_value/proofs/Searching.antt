-- A name among names that rise.
use Rattle.std.proofs.Common.{Ordering, ◌≡◌, ◌≢◌, ℕ, zero, suc, ◌<◌, ◌≤◌, List, [], ◌∷◌, ◌++◌, map, length, get_or, take, drop, set, None, option_map, slice_get, Result, Ok, Err, Less, Equal, Greater, inl, inr, refl, ap, ◌∙◌, subst, arith}
use Rattle.std.proofs.lemmas.List.{length-map}
use Rattle.std.proofs.lemmas.Cmp.{tied_itself}
use Rattle.std.specs.Cmp.Lexicographic.{slice_cmp, nat_list_cmp_total, bytes_decides}
use Rattle.std.specs.Prelude.{if◌then◌else◌}
use Rattle.std.specs.List.Sorted.{IsNonDecreasingBy, IsBinarySearchResult, IsSearchInRange}
use Rattle.std.specs.Ordering.{nat_cmp, ordering_index}
use Rattle.std.proofs.lemmas.Bool.{cases_lt}
use Rattle.sequences.proofs.Searching.{non_decreasing}
use Rattle.sequences.proofs.Texts.{same_texts, lesser_texts, other_texts, turned_up, turned_down}
use Rattle.fml_types.specs.Named.{found, AreRising}
use Rattle.fml_value.specs.Entries.{beside, with_entry, replaced, IsPlace}
use Rattle.fml_value.specs.Typed.{TypedValue}
use Rattle.fml_value.specs.TypedOf.{entry_of}
use Rattle.fml_value.specs.declared.value.Value.{Value}
use Rattle.fml_value.proofs.Ordered.{below_at}

-- how the member's key compares with this one
abbrev pub key_order : List ℕ → List ℕ × Value → Ordering
key_order key e = slice_cmp nat_cmp e.0 key

-- where no key is this one, `get` finds none
found-none : (key : List ℕ) (es : List (List ℕ × Value)) → ((i : ℕ) (d : List ℕ × Value) → i < length es → key_order key (get_or es i d) ≢ Equal) → found key (map entry_of es) ≡ None
found-none key [] h = refl
found-none key (e ∷ es) h = rw (other_texts e.0 key (h 0 e (omega arith))) (found-none key es (λ i d less. h (suc i) d (omega arith)))

rises : (es : List (List ℕ × Value)) (i j : ℕ) (d : List ℕ × Value) → i < j → j < length es → AreRising (map entry_of es) → slice_cmp nat_cmp (get_or es i d).0 (get_or es j d).0 ≡ Less
rises [] i j d less h rising = absurd (omega arith)
rises (e ∷ es) i zero d less h rising = absurd (omega arith)
rises (e ∷ es) zero (suc j) d less h rising = below_at e.0 es j d (omega arith) rising.0
rises (e ∷ es) (suc i) (suc j) d less h rising = rises es i j d (omega arith) (omega arith) rising.1

can_search : (key : List ℕ) (es : List (List ℕ × Value)) → AreRising (map entry_of es) → IsNonDecreasingBy (λ e. ordering_index (key_order key e)) es
can_search key es rising = non_decreasing (λ (e : List ℕ × Value). e.0) key es (λ i j d less h. rises es i j d less h rising)

less≢equal : (o : Ordering) → o ≡ Less → o ≢ Equal
less≢equal o e f = cc

greater≢equal : (o : Ordering) → o ≡ Greater → o ≢ Equal
greater≢equal o e f = cc

-- what a binary search that finds no member says
pub found-absent : (key : List ℕ) (es : List (List ℕ × Value)) (i : ℕ) → AreRising (map entry_of es) → IsBinarySearchResult (key_order key) es (Err i) → found key (map entry_of es) ≡ None
found-absent key es i rising h =
    let point = h (can_search key es rising) in
    found-none key es (λ j d less. elim (cases_lt j i) [
      | inl before ↦ less≢equal _ (point.0 j d (omega arith) before)
      | inr after ↦ greater≢equal _ (point.1 j d after less)
    ])

-- ---- where a name gets its value

with_entry-at : (key : List ℕ) (x : TypedValue) (es : List (List ℕ × Value)) (i : ℕ) (d : List ℕ × Value) → i < length es → AreRising (map entry_of es) → (get_or es i d).0 ≡ key
    → with_entry key x (map entry_of es) ≡ set (map entry_of es) i (key, x)
with_entry-at key x [] i d h rising same = absurd (omega arith)
with_entry-at key x (e ∷ es) zero d h rising same =
    let tied : slice_cmp nat_cmp key e.0 ≡ Equal = subst (λ k. slice_cmp nat_cmp k e.0 ≡ Equal) same (tied_itself nat_list_cmp_total e.0) in
    ap (λ o. beside o (key, x) (entry_of e) (map entry_of es) (with_entry key x (map entry_of es))) tied
with_entry-at key x (e ∷ es) (suc i) d h rising same =
    let below : slice_cmp nat_cmp e.0 key ≡ Less = subst (λ k. slice_cmp nat_cmp e.0 k ≡ Less) same (below_at e.0 es i d (omega arith) rising.0) in
    ap (λ o. beside o (key, x) (entry_of e) (map entry_of es) (with_entry key x (map entry_of es))) (turned_up e.0 key below)
    ∙ ap (λ l. entry_of e ∷ l) (with_entry-at key x es i d (omega arith) rising.1 same)

with_entry-between : (key : List ℕ) (x : TypedValue) (es : List (List ℕ × Value)) (i : ℕ) → i ≤ length es
    → ((j : ℕ) (d : List ℕ × Value) → j < i → key_order key (get_or es j d) ≡ Less) → ((j : ℕ) (d : List ℕ × Value) → i ≤ j → j < length es → key_order key (get_or es j d) ≡ Greater)
    → with_entry key x (map entry_of es) ≡ take i (map entry_of es) ++ (key, x) ∷ drop i (map entry_of es)
with_entry-between key x [] zero h before after = refl
with_entry-between key x [] (suc i) h before after = absurd (omega arith)
with_entry-between key x (e ∷ es) zero h before after =
    ap (λ o. beside o (key, x) (entry_of e) (map entry_of es) (with_entry key x (map entry_of es))) (turned_down e.0 key (after 0 e (omega arith) (omega arith)))
with_entry-between key x (e ∷ es) (suc i) h before after =
    ap (λ o. beside o (key, x) (entry_of e) (map entry_of es) (with_entry key x (map entry_of es))) (turned_up e.0 key (before 0 e (omega arith)))
    ∙ ap (λ l. entry_of e ∷ l) (with_entry-between key x es i (omega arith) (λ j d less. before (suc j) d (omega arith)) (λ j d most less. after (suc j) d (omega arith) (omega arith)))

found-place : (key : List ℕ) (es : List (List ℕ × Value)) (i : ℕ) → i < length es → AreRising (map entry_of es) → ((d : List ℕ × Value) → (get_or es i d).0 ≡ key)
    → found key (map entry_of es) ≡ option_map (λ e. e.1) (slice_get (map entry_of es) i)
found-place key [] i h rising same = absurd (omega arith)
found-place key (e ∷ es) zero h rising same = rw ((bytes_decides e.0 key).1 (same e))
found-place key (e ∷ es) (suc i) h rising same =
    let below : slice_cmp nat_cmp e.0 key ≡ Less = subst (λ k. slice_cmp nat_cmp e.0 k ≡ Less) (same e) (below_at e.0 es i e (omega arith) rising.0) in
    rw (lesser_texts e.0 key below) (found-place key es i (omega arith) rising.1 same)

with_entry-set : (key : List ℕ) (x : TypedValue) (es : List (List ℕ × Value)) (i : ℕ) → i < length es → AreRising (map entry_of es) → ((d : List ℕ × Value) → (get_or es i d).0 ≡ key)
    → with_entry key x (map entry_of es) ≡ set (map entry_of es) i (key, x)
with_entry-set key x [] i h rising same = absurd (omega arith)
with_entry-set key x (e ∷ es) i h rising same = with_entry-at key x (e ∷ es) i e h rising (same e)

replaced-set : (key : List ℕ) (x : TypedValue) (es : List (List ℕ × Value)) (i : ℕ) → i < length es → AreRising (map entry_of es) → ((d : List ℕ × Value) → (get_or es i d).0 ≡ key)
    → replaced key x (map entry_of es) ≡ set (map entry_of es) i (key, x)
replaced-set key x [] i h rising same = absurd (omega arith)
replaced-set key x (e ∷ es) zero h rising same = ap (λ b. if b then (key, x) ∷ map entry_of es else entry_of e ∷ replaced key x (map entry_of es)) ((bytes_decides e.0 key).1 (same e))
replaced-set key x (e ∷ es) (suc i) h rising same =
    let below : slice_cmp nat_cmp e.0 key ≡ Less = subst (λ k. slice_cmp nat_cmp e.0 k ≡ Less) (same e) (below_at e.0 es i e (omega arith) rising.0) in
    ap (λ b. if b then (key, x) ∷ map entry_of es else entry_of e ∷ replaced key x (map entry_of es)) (lesser_texts e.0 key below)
    ∙ ap (λ l. entry_of e ∷ l) (replaced-set key x es i (omega arith) rising.1 same)

name-at : (key : List ℕ) (es : List (List ℕ × Value)) (i : ℕ) → i < length es → ((d : List ℕ × Value) → (get_or es i d).0 ≡ key) → (d : List ℕ × TypedValue) → (get_or (map entry_of es) i d).0 ≡ key
name-at key [] i h same d = absurd (omega arith)
name-at key (e ∷ es) zero h same d = same e
name-at key (e ∷ es) (suc i) h same d = name-at key es i (omega arith) same d

-- what a binary search answers is the place
pub place_of : (key : List ℕ) (es : List (List ℕ × Value)) (r : Result ℕ ℕ) → AreRising (map entry_of es) → IsSearchInRange r (length es) → IsBinarySearchResult (key_order key) es r → IsPlace key (map entry_of es) r
place_of key es (Ok i) rising within here =
    let same : (d : List ℕ × Value) → (get_or es i d).0 ≡ key = λ d. same_texts (get_or es i d).0 key (here d) in
    record {
      within = omega (arith, length-map es entry_of);
      named = name-at key es i within same;
      value = found-place key es i within rising same;
      entering = λ x. with_entry-set key x es i within rising same;
      replacing = λ x. replaced-set key x es i within rising same;
    }
place_of key es (Err i) rising within nowhere =
    let point = nowhere (can_search key es rising) in
    record {
      within = omega (arith, length-map es entry_of);
      absent = found-absent key es i rising nowhere;
      entering = λ x. with_entry-between key x es i within (λ j d less. point.0 j d (omega arith) less) point.1;
    }
