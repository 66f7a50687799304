-- The counts of a name, found by a search, and counts with those of one name more.
use Rattle.std.proofs.Common.{Ordering, ◌≡◌, ℕ, zero, suc, ◌<◌, List, [], ◌∷◌, map, length, get_or, take, drop, Some, None, Less, Equal, Greater, refl, sym, ap, ◌∙◌, subst, arith}
use Rattle.std.proofs.lemmas.Map.Text.{is_eq-slice_cmp}
use Rattle.std.specs.Prelude.{slice_set, Bool, true, false, bytes_eq, if◌then◌else◌}
use Rattle.std.specs.List.{AllByRecursion, insert}
use Rattle.std.specs.List.Sorted.{IsStrictlySortedBy}
use Rattle.std.specs.Ordering.{match_ordering, is_eq}
use Rattle.event_counts.specs.declared.name_counts.NameCounts.{NameCounts}
use Rattle.event_counts.specs.Kept.{found, found_at, at_moment, no_counts, with_more, with_name, counted_at}
use Rattle.event_counts.specs.Places.{AreAbove, AreBelow, HasNameAt, BelongsAt}
use Rattle.event_counts.specs.Sound.{AreInOrder, name_cmp, name_of}
use Rattle.sequences.proofs.Texts.{same_texts, turned_up, turned_down, turned_even, above_trans}
use Rattle.sequences.proofs.Searching.{text_at}

-- ---- one step of each search

named : (a b : List ℕ) (o : Ordering) → name_cmp a b ≡ o → bytes_eq a b ≡ is_eq o
named a b o e = sym (is_eq-slice_cmp a b) ∙ ap is_eq e

met : (name : List ℕ) (n : NameCounts) (ns : List NameCounts) (b : Bool) → bytes_eq n.name name ≡ b → found name (n ∷ ns) ≡ (if b then Some n else found name ns)
met name n ns b e = ap (λ (p : Bool). if p then Some n else found name ns) e

picked : (n o : NameCounts) (os : List NameCounts) (c : Ordering) → name_cmp n.name o.name ≡ c → with_name n (o ∷ os) ≡ match_ordering c (n ∷ o ∷ os) (n ∷ os) (o ∷ with_name n os)
picked n o os c e = ap (λ p. match_ordering p (n ∷ o ∷ os) (n ∷ os) (o ∷ with_name n os)) e

-- ---- the counts at a place are those of the name

before_it : (name : List ℕ) (o : NameCounts) (os : List NameCounts) (i : ℕ) (d : NameCounts) → i < length os → AreAbove o.name (map name_of os) → name_cmp (get_or os i d).name name ≡ Equal → name_cmp o.name name ≡ Less
before_it name o os i d less above e =
    let same = same_texts (get_or os i d).name name e in
    subst (λ t. name_cmp o.name t ≡ Less) same (text_at (λ t. name_cmp o.name t ≡ Less) name_of os i d less above)

found-at : (name : List ℕ) (ns : List NameCounts) (i : ℕ) (d : NameCounts) → i < length ns → AreInOrder ns → name_cmp (get_or ns i d).name name ≡ Equal → found name ns ≡ Some (get_or ns i d)
unfolding IsStrictlySortedBy
found-at name [] i d less order e = absurd (omega arith)
found-at name (n ∷ ns) zero d less order e = met name n ns true (named n.name name Equal e)
found-at name (n ∷ ns) (suc i) d less order e =
    met name n ns false (named n.name name Less (before_it name n ns i d (omega arith) order.0 e)) ∙ found-at name ns i d (omega arith) order.1 e

with-at : (n : NameCounts) (ns : List NameCounts) (i : ℕ) (d : NameCounts) → i < length ns → AreInOrder ns → name_cmp (get_or ns i d).name n.name ≡ Equal → slice_set ns i n ≡ with_name n ns
unfolding IsStrictlySortedBy
with-at n [] i d less order e = absurd (omega arith)
with-at n (o ∷ os) zero d less order e = sym (picked n o os Equal (turned_even o.name n.name e))
with-at n (o ∷ os) (suc i) d less order e =
    ap (λ rs. o ∷ rs) (with-at n os i d (omega arith) order.1 e) ∙ sym (picked n o os Greater (turned_up o.name n.name (before_it n.name o os i d (omega arith) order.0 e)))

-- counts with more in the place of those of a name that is there
pub put_there : (name : List ℕ) (count moment : ℕ) (ns : List NameCounts) (i : ℕ) (d : NameCounts) → AreInOrder ns → HasNameAt name ns i
    → slice_set ns i (with_more count (at_moment moment (get_or ns i d))) ≡ with_name (with_more count (at_moment moment (get_or ns i d))) ns
put_there name count moment ns i d order at =
    let n : NameCounts = get_or ns i d in
    let e : name_cmp n.name name ≡ Equal = at.same d in
    let own : name_cmp n.name n.name ≡ Equal = subst (λ t. name_cmp n.name t ≡ Equal) (sym (same_texts n.name name e)) e in
    with-at (with_more count (at_moment moment n)) ns i d at.within order own

-- the counts after an event of a name that is there
pub counted_there : (name : List ℕ) (count moment : ℕ) (ns : List NameCounts) (i : ℕ) (d : NameCounts) → AreInOrder ns → HasNameAt name ns i
    → slice_set ns i (with_more count (at_moment moment (get_or ns i d))) ≡ counted_at moment name count ns
counted_there name count moment ns i d order at =
    put_there name count moment ns i d order at
    ∙ ap (λ o. with_name (with_more count (found_at moment name o)) ns) (sym (found-at name ns i d at.within order (at.same d)))

-- ---- there are no counts of the name

found-above : (name : List ℕ) (ns : List NameCounts) → AreAbove name (map name_of ns) → found name ns ≡ None
found-above name [] above = refl
found-above name (n ∷ ns) above = met name n ns false (named n.name name Greater (turned_up name n.name above.0)) ∙ found-above name ns above.1

found-not : (name : List ℕ) (ns : List NameCounts) (i : ℕ) → AreBelow name (take i (map name_of ns)) → AreAbove name (drop i (map name_of ns)) → found name ns ≡ None
found-not name [] i below above = refl
found-not name (n ∷ ns) zero below above = found-above name (n ∷ ns) above
found-not name (n ∷ ns) (suc i) below above = met name n ns false (named n.name name Less below.0) ∙ found-not name ns i below.1 above

with-not : (n : NameCounts) (ns : List NameCounts) (i : ℕ) → AreBelow n.name (take i (map name_of ns)) → AreAbove n.name (drop i (map name_of ns)) → insert ns i n ≡ with_name n ns
with-not n [] zero below above = refl
with-not n [] (suc i) below above = refl
with-not n (o ∷ os) zero below above = sym (picked n o os Less above.0)
with-not n (o ∷ os) (suc i) below above = ap (λ rs. o ∷ rs) (with-not n os i below.1 above) ∙ sym (picked n o os Greater (turned_up o.name n.name below.0))

pub found_there : (name : List ℕ) (ns : List NameCounts) (i : ℕ) (d : NameCounts) → AreInOrder ns → HasNameAt name ns i → found name ns ≡ Some (get_or ns i d)
found_there name ns i d order at = found-at name ns i d at.within order (at.same d)

pub found_nowhere : (name : List ℕ) (ns : List NameCounts) (i : ℕ) → BelongsAt name ns i → found name ns ≡ None
found_nowhere name ns i at = found-not name ns i at.below at.above

-- counts with those of a new name
pub put_new : (name : List ℕ) (count moment : ℕ) (ns : List NameCounts) (i : ℕ) → BelongsAt name ns i
    → insert ns i (with_more count (no_counts name moment)) ≡ with_name (with_more count (no_counts name moment)) ns
put_new name count moment ns i at = with-not (with_more count (no_counts name moment)) ns i at.below at.above

-- the counts after the first event of a name
pub counted_new : (name : List ℕ) (count moment : ℕ) (ns : List NameCounts) (i : ℕ) → BelongsAt name ns i
    → insert ns i (with_more count (no_counts name moment)) ≡ counted_at moment name count ns
counted_new name count moment ns i at =
    put_new name count moment ns i at
    ∙ ap (λ o. with_name (with_more count (found_at moment name o)) ns) (sym (found_nowhere name ns i at))

-- ---- counts stay in order

above-with : (a : List ℕ) (n : NameCounts) (ns : List NameCounts) → name_cmp a n.name ≡ Less → AreAbove a (map name_of ns) → AreAbove a (map name_of (with_name n ns))
above-with a n [] less above = (less, tt)
above-with a n (o ∷ os) less above =
    elim (name_cmp n.name o.name) as (λ c. AreAbove a (map name_of (match_ordering c (n ∷ o ∷ os) (n ∷ os) (o ∷ with_name n os)))) [
      | Less ↦ (less, above)
      | Equal ↦ (less, above.1)
      | Greater ↦ (above.0, above-with a n os less above.1)
    ]

with_at : (n o : NameCounts) (os : List NameCounts) (c : Ordering) → name_cmp n.name o.name ≡ c → AreInOrder (o ∷ os) → AreInOrder (with_name n os) → AreInOrder (match_ordering c (n ∷ o ∷ os) (n ∷ os) (o ∷ with_name n os))
unfolding IsStrictlySortedBy
with_at n o os Less e order rest = ((e, above_trans n.name o.name (map name_of os) e order.0), order)
with_at n o os Equal e order rest = (subst (λ k. AreAbove k (map name_of os)) (sym (same_texts n.name o.name e)) order.0, order.1)
with_at n o os Greater e order rest = (above-with o.name n os (turned_down n.name o.name e) order.0, rest)

pub order-with : (n : NameCounts) (ns : List NameCounts) → AreInOrder ns → AreInOrder (with_name n ns)
unfolding IsStrictlySortedBy
order-with n [] order = (tt, tt)
order-with n (o ∷ os) order = with_at n o os (name_cmp n.name o.name) refl order (order-with n os order.1)

-- ---- what holds of all counts

pub all-with : (P : NameCounts → Type 0) (n : NameCounts) (ns : List NameCounts) → P n → AllByRecursion P ns → AllByRecursion P (with_name n ns)
all-with P n [] here all = (here, tt)
all-with P n (o ∷ os) here all =
    elim (name_cmp n.name o.name) as (λ c. AllByRecursion P (match_ordering c (n ∷ o ∷ os) (n ∷ os) (o ∷ with_name n os))) [
      | Less ↦ (here, all)
      | Equal ↦ (here, all.1)
      | Greater ↦ (all.0, all-with P n os here all.1)
    ]
