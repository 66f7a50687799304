-- A member beside those below and above its key.
use Rattle.std.proofs.Common.{Ordering, ◌≡◌, ℕ, true, cond, List, [], ◌∷◌, ◌++◌, Less, Equal, Greater, refl, sym, ap, ap₂, ◌∙◌, subst, append_assoc}
use Rattle.std.proofs.lemmas.List.Elements.{filter-append}
use Rattle.std.specs.Cmp.Lexicographic.{slice_cmp, nat_list_cmp_total, texts_ties, bytes_decides}
use Rattle.std.specs.Ordering.{nat_cmp, ordering_reverse, is_eq}
use Rattle.json_tree.specs.Json.{Json, IsBelow, IsAbove, members_of, AreSoundMembers}
use Rattle.jexl_value.specs.Names.{beside, with_member}
use Rattle.app_context.specs.declared.events.Side.{Side}
use Rattle.app_context.specs.declared.events.Side.TheVariants.{Below, Above}
use Rattle.app_context.specs.Sides.{stands, is_on, those, Rises}

pub sound_rises : (ms : List (List ℕ × Json)) → AreSoundMembers (members_of ms) → Rises ms
sound_rises [] sound = tt
sound_rises (m ∷ ms) sound = (sound.1, sound_rises ms sound.3)

-- ---- the head of what is left is above what stands before it

below_in : (k : List ℕ) (front : List (List ℕ × Json)) (m : List ℕ × Json) (bs : List (List ℕ × Json)) → IsBelow k (members_of (front ++ m ∷ bs)) → slice_cmp nat_cmp k m.0 ≡ Less
below_in k [] m bs below = below.0
below_in k (a ∷ front) m bs below = below_in k front m bs below.1

pub above_in : (front : List (List ℕ × Json)) (m : List ℕ × Json) (bs : List (List ℕ × Json)) → Rises (front ++ m ∷ bs) → IsAbove m.0 front
above_in [] m bs rises = tt
above_in (a ∷ front) m bs rises = (below_in a.0 front m bs rises.0, above_in front m bs rises.1)

below_front : (k : List ℕ) (front bs : List (List ℕ × Json)) → IsBelow k (members_of (front ++ bs)) → IsBelow k (members_of front)
below_front k [] bs below = tt
below_front k (a ∷ front) bs below = (below.0, below_front k front bs below.1)

pub rises_front : (front bs : List (List ℕ × Json)) → Rises (front ++ bs) → Rises front
rises_front [] bs rises = tt
rises_front (a ∷ front) bs rises = (below_front a.0 front bs rises.0, rises_front front bs rises.1)

-- ---- a key beside members that rise

turned_about : (a b : List ℕ) (o : Ordering) → slice_cmp nat_cmp a b ≡ o → slice_cmp nat_cmp b a ≡ ordering_reverse o
turned_about a b o e = nat_list_cmp_total.antisymm b a ∙ ap ordering_reverse e

below_later : (k : List ℕ) (m : List ℕ × Json) (ms : List (List ℕ × Json)) → slice_cmp nat_cmp k m.0 ≡ Less → IsBelow m.0 (members_of ms) → IsBelow k (members_of ms)
below_later k m [] less below = tt
below_later k m (n ∷ ms) less below = (nat_list_cmp_total.trans k m.0 n.0 less below.0, below_later k m ms less below.1)

below_same : (k l : List ℕ) (ms : List (List ℕ × Json)) → slice_cmp nat_cmp k l ≡ Equal → IsBelow l (members_of ms) → IsBelow k (members_of ms)
below_same k l ms tied below = subst (λ n. IsBelow n (members_of ms)) (sym ((bytes_decides k l).0 (texts_ties k l ∙ ap is_eq tied))) below

none_below : (k : List ℕ) (ms : List (List ℕ × Json)) → IsBelow k (members_of ms) → those Below k ms ≡ []
none_below k [] below = refl
none_below k (m ∷ ms) below =
    ap (λ o. cond (stands Below o) (m ∷ those Below k ms) (those Below k ms)) (turned_about k m.0 Less below.0) ∙ none_below k ms below.1

all_above : (k : List ℕ) (ms : List (List ℕ × Json)) → IsBelow k (members_of ms) → those Above k ms ≡ ms
all_above k [] below = refl
all_above k (m ∷ ms) below =
    ap (λ o. cond (stands Above o) (m ∷ those Above k ms) (those Above k ms)) (turned_about k m.0 Less below.0) ∙ ap (λ l. m ∷ l) (all_above k ms below.1)

-- the members with another one, side by side
pub by_sides : (k : List ℕ) (x : Json) (ms : List (List ℕ × Json)) → Rises ms → with_member k x ms ≡ those Below k ms ++ (k, x) ∷ those Above k ms
by_sides k x [] rises = refl
by_sides k x (m ∷ ms) rises =
    let lower = λ (o : Ordering). cond (stands Below o) (m ∷ those Below k ms) (those Below k ms) in
    let upper = λ (o : Ordering). cond (stands Above o) (m ∷ those Above k ms) (those Above k ms) in
    let sides = λ (o : Ordering) (e : slice_cmp nat_cmp k m.0 ≡ o). ap (λ r. lower r ++ (k, x) ∷ upper r) (sym (turned_about k m.0 o e)) in
    elim (slice_cmp nat_cmp k m.0) as (λ o. slice_cmp nat_cmp k m.0 ≡ o → beside o (k, x) m ms (with_member k x ms) ≡ those Below k (m ∷ ms) ++ (k, x) ∷ those Above k (m ∷ ms)) [
      | Less ↦ λ e. let below = below_later k m ms e rises.0 in ap₂ (λ ls us. ls ++ (k, x) ∷ m ∷ us) (sym (none_below k ms below)) (sym (all_above k ms below)) ∙ sides Less e
      | Equal ↦ λ e. let below = below_same k m.0 ms e rises.0 in ap₂ (λ ls us. ls ++ (k, x) ∷ us) (sym (none_below k ms below)) (sym (all_above k ms below)) ∙ sides Equal e
      | Greater ↦ λ e. ap (λ l. m ∷ l) (by_sides k x ms rises.1) ∙ sides Greater e
    ] refl

below_with : (k name : List ℕ) (x : Json) (ms : List (List ℕ × Json)) → slice_cmp nat_cmp k name ≡ Less → IsBelow k (members_of ms) → IsBelow k (members_of (with_member name x ms))
below_with k name x [] less below = (less, tt)
below_with k name x (m ∷ ms) less below =
    elim (slice_cmp nat_cmp name m.0) as (λ o. IsBelow k (members_of (beside o (name, x) m ms (with_member name x ms)))) [
      | Less ↦ (less, below)
      | Equal ↦ (less, below.1)
      | Greater ↦ (below.0, below_with k name x ms less below.1)
    ]

pub rises_with : (name : List ℕ) (x : Json) (ms : List (List ℕ × Json)) → Rises ms → Rises (with_member name x ms)
rises_with name x [] rises = (tt, tt)
rises_with name x (m ∷ ms) rises =
    elim (slice_cmp nat_cmp name m.0) as (λ o. slice_cmp nat_cmp name m.0 ≡ o → Rises (beside o (name, x) m ms (with_member name x ms))) [
      | Less ↦ λ e. ((e, below_later name m ms e rises.0), rises)
      | Equal ↦ λ e. (below_same name m.0 ms e rises.0, rises.1)
      | Greater ↦ λ e. (below_with m.0 name x ms (turned_about name m.0 Greater e) rises.0, rises_with name x ms rises.1)
    ] refl

pub rise_by_sides : (k : List ℕ) (x : Json) (ms : List (List ℕ × Json)) → Rises ms → Rises (those Below k ms ++ (k, x) ∷ those Above k ms)
rise_by_sides k x ms rises = subst Rises (by_sides k x ms rises) (rises_with k x ms rises)

-- ---- one side after another

pub those_join : (side : Side) (k : List ℕ) (xs ys : List (List ℕ × Json)) → those side k (xs ++ ys) ≡ those side k xs ++ those side k ys
those_join side k xs ys = filter-append (λ m. is_on side k m.0) xs ys

-- a member on the side is above those that stand before it
pub above_those : (side : Side) (k : List ℕ) (made xs : List (List ℕ × Json)) (m : List ℕ × Json) (ys : List (List ℕ × Json)) → Rises (made ++ those side k (xs ++ m ∷ ys)) → is_on side k m.0 ≡ true → IsAbove m.0 (made ++ those side k xs)
above_those side k made xs m ys rises is =
    above_in (made ++ those side k xs) m (those side k ys)
    (subst Rises (ap (λ l. made ++ l) (those_join side k xs (m ∷ ys) ∙ ap (λ b. those side k xs ++ cond b (m ∷ those side k ys) (those side k ys)) is) ∙ sym (append_assoc made (those side k xs) (m ∷ those side k ys))) rises)

-- what stands below, the member itself, and what stands above, put one after another
pub put_together : (k : List ℕ) (x : Json) (ms none lower one all : List (List ℕ × Json)) → Rises ms → none ≡ [] → lower ≡ none ++ those Below k ms → one ≡ lower ++ (k, x) ∷ [] → all ≡ one ++ those Above k ms
    → all ≡ with_member k x ms
put_together k x ms none lower one all rises empty first after last =
    last
    ∙ ap (λ l. l ++ those Above k ms) (after ∙ ap (λ l. l ++ (k, x) ∷ []) (first ∙ ap (λ l. l ++ those Below k ms) empty))
    ∙ append_assoc (those Below k ms) ((k, x) ∷ []) (those Above k ms)
    ∙ sym (by_sides k x ms rises)

-- each of the three may be put there
pub lower_rises : (k : List ℕ) (x : Json) (ms none : List (List ℕ × Json)) → Rises ms → none ≡ [] → Rises (none ++ those Below k ms)
lower_rises k x ms none rises empty = subst (λ l. Rises (l ++ those Below k ms)) (sym empty) (rises_front (those Below k ms) ((k, x) ∷ those Above k ms) (rise_by_sides k x ms rises))

pub one_is_above : (k : List ℕ) (x : Json) (ms none lower : List (List ℕ × Json)) → Rises ms → none ≡ [] → lower ≡ none ++ those Below k ms → IsAbove k lower
one_is_above k x ms none lower rises empty first =
    subst (IsAbove k) (sym (first ∙ ap (λ l. l ++ those Below k ms) empty)) (above_in (those Below k ms) (k, x) (those Above k ms) (rise_by_sides k x ms rises))

pub upper_rises : (k : List ℕ) (x : Json) (ms none lower one : List (List ℕ × Json)) → Rises ms → none ≡ [] → lower ≡ none ++ those Below k ms → one ≡ lower ++ (k, x) ∷ [] → Rises (one ++ those Above k ms)
upper_rises k x ms none lower one rises empty first after =
    subst Rises
    (sym (ap (λ l. l ++ those Above k ms) (after ∙ ap (λ l. l ++ (k, x) ∷ []) (first ∙ ap (λ l. l ++ those Below k ms) empty)) ∙ append_assoc (those Below k ms) ((k, x) ∷ []) (those Above k ms)))
    (rise_by_sides k x ms rises)
