-- A name among names that rise.
use Rattle.std.proofs.Common.{◌≡◌, ℕ, zero, suc, ◌<◌, Bool, true, false, List, [], ◌∷◌, ◌++◌, length, get_or, take, drop, Less, Equal, Greater, Option, refl, sym, ap, ◌∙◌, arith}
use Rattle.std.specs.List.{insert}
use Rattle.std.specs.Prelude.{◌||◌, bytes_eq, option_map, if◌then◌else◌, Some, None}
use Rattle.std.specs.Ordering.{nat_cmp, ordering_reverse, is_eq, is_lt}
use Rattle.std.specs.Cmp.Lexicographic.{slice_cmp}
use Rattle.std.proofs.lemmas.Cmp.{nat_list_cmp_total}
use Rattle.std.proofs.lemmas.Map.Text.{is_eq-slice_cmp}
use Rattle.sequences.proofs.Texts.{turned_down}
use Rattle.fml_types.specs.Named.{IsAbove, IsBelow, AreRising, IsPlace, found, has_name, place, with_name}

pub below_at : {T : Type 0} (a : List ℕ) (ps : List (List ℕ × T)) (i : ℕ) (d : List ℕ × T) → i < length ps → IsBelow a ps → slice_cmp nat_cmp a (get_or ps i d).0 ≡ Less
below_at a [] i d lt below = absurd (omega arith)
below_at a (p ∷ ps) zero d lt below = below.0
below_at a (p ∷ ps) (suc i) d lt below = below_at a ps i d (omega arith) below.1

-- the place of a name that is there
pub place_at : {T : Type 0} (s : List ℕ) (ps : List (List ℕ × T)) (i : ℕ) (d : List ℕ × T) → i < length ps → AreRising ps → slice_cmp nat_cmp (get_or ps i d).0 s ≡ Equal → place s ps ≡ Some i
place_at s [] i d lt rising h = absurd (omega arith)
place_at s (p ∷ ps) zero d lt rising h =
    let same : bytes_eq p.0 s ≡ true = sym (is_eq-slice_cmp p.0 s) ∙ ap is_eq h in
    ap (λ b. if b then Some 0 else option_map suc (place s ps)) same
place_at s (p ∷ ps) (suc i) d lt rising h =
    let here = (get_or ps i d).0 in
    let above : slice_cmp nat_cmp here p.0 ≡ Greater = nat_list_cmp_total.antisymm here p.0 ∙ ap ordering_reverse (below_at p.0 ps i d (omega arith) rising.0) in
    let less : slice_cmp nat_cmp p.0 s ≡ Less = turned_down s p.0 (sym (nat_list_cmp_total.congr here s p.0 h) ∙ above) in
    let other : bytes_eq p.0 s ≡ false = sym (is_eq-slice_cmp p.0 s) ∙ ap is_eq less in
    ap (λ b. if b then Some 0 else option_map suc (place s ps)) other ∙ ap (option_map suc) (place_at s ps i d (omega arith) rising.1 h)

absent_below : {T : Type 0} (s : List ℕ) (ps : List (List ℕ × T)) → IsBelow s ps → place s ps ≡ None
absent_below s [] below = refl
absent_below s (p ∷ ps) below =
    let turn : slice_cmp nat_cmp p.0 s ≡ Greater = nat_list_cmp_total.antisymm p.0 s ∙ ap ordering_reverse below.0 in
    let other : bytes_eq p.0 s ≡ false = sym (is_eq-slice_cmp p.0 s) ∙ ap is_eq turn in
    ap (λ b. if b then Some 0 else option_map suc (place s ps)) other ∙ ap (option_map suc) (absent_below s ps below.1)

-- a name between those before a place and those from it on is not there
pub absent : {T : Type 0} (s : List ℕ) (ps : List (List ℕ × T)) (i : ℕ) → IsAbove s (take i ps) → IsBelow s (drop i ps) → place s ps ≡ None
absent s [] i above below = refl
absent s (p ∷ ps) zero above below = absent_below s (p ∷ ps) below
absent s (p ∷ ps) (suc i) above below =
    let other : bytes_eq p.0 s ≡ false = sym (is_eq-slice_cmp p.0 s) ∙ ap is_eq above.0 in
    ap (λ b. if b then Some 0 else option_map suc (place s ps)) other ∙ ap (option_map suc) (absent s ps i above.1 below)

-- what stands under a name stands at its place
found-none : {T : Type 0} (s : List ℕ) (p : List ℕ × T) (ps : List (List ℕ × T)) (b : Bool) → ((place s ps ≡ None) → found s ps ≡ None) → (if b then Some 0 else option_map suc (place s ps)) ≡ None → (if b then Some p.1 else found s ps) ≡ None
found-none s p ps true rest h = absurd cc
found-none s p ps false rest h = rest (none_before (place s ps) h)
  where
    none_before : (o : Option ℕ) → option_map suc o ≡ None → o ≡ None
    none_before None e = refl
    none_before (Some n) e = absurd cc

pub found_none : {T : Type 0} (s : List ℕ) (ps : List (List ℕ × T)) → place s ps ≡ None → found s ps ≡ None
found_none s [] h = refl
found_none s (p ∷ ps) h = found-none s p ps (bytes_eq p.0 s) (found_none s ps) h

some-at : {T : Type 0} (s : List ℕ) (p : List ℕ × T) (ps : List (List ℕ × T)) (b : Bool) (o : Option ℕ) (i : ℕ) (d : List ℕ × T) → ((j : ℕ) → o ≡ Some j → found s ps ≡ Some (get_or ps j d).1) → (if b then Some 0 else option_map suc o) ≡ Some i
    → (if b then Some p.1 else found s ps) ≡ Some (get_or (p ∷ ps) i d).1
some-at s p ps true o zero d rest h = refl
some-at s p ps true o (suc i) d rest h = absurd cc
some-at s p ps false None i d rest h = absurd cc
some-at s p ps false (Some j) zero d rest h = absurd cc
some-at s p ps false (Some j) (suc i) d rest h = rest i (let same : j ≡ i = cc in ap (λ n. Some n) same)

pub found_at : {T : Type 0} (s : List ℕ) (ps : List (List ℕ × T)) (i : ℕ) (d : List ℕ × T) → place s ps ≡ Some i → found s ps ≡ Some (get_or ps i d).1
found_at s [] i d h = absurd cc
found_at s (p ∷ ps) i d h = some-at s p ps (bytes_eq p.0 s) (place s ps) i d (λ j. found_at s ps j d) h

pub place_within : {T : Type 0} (s : List ℕ) (ps : List (List ℕ × T)) (i : ℕ) → place s ps ≡ Some i → i < length ps
place_within s [] i h = absurd cc
place_within s (p ∷ ps) i h = within (bytes_eq p.0 s) (place s ps) i h (place_within s ps)
  where
    within : (b : Bool) (o : Option ℕ) (i : ℕ) → (if b then Some 0 else option_map suc o) ≡ Some i → ((j : ℕ) → o ≡ Some j → j < length ps) → i < suc (length ps)
    within true o zero e rest = omega arith
    within true o (suc i) e rest = absurd cc
    within false None i e rest = absurd cc
    within false (Some j) zero e rest = omega arith
    within false (Some j) (suc i) e rest = let below = rest i (let same : j ≡ i = cc in ap (λ n. Some n) same) in omega (arith, below)

-- ---- one more at the end

below_push : {T : Type 0} (s : List ℕ) (p : List ℕ × T) (ps : List (List ℕ × T)) → slice_cmp nat_cmp s p.0 ≡ Less → IsBelow s ps → IsBelow s (ps ++ p ∷ [])
below_push s p [] h below = (h, tt)
below_push s p (q ∷ qs) h below = (below.0, below_push s p qs h below.1)

pub rising_push : {T : Type 0} (p : List ℕ × T) (ps : List (List ℕ × T)) → AreRising ps → IsAbove p.0 ps → AreRising (ps ++ p ∷ [])
rising_push p [] rising above = (tt, tt)
rising_push p (q ∷ qs) rising above = (below_push q.0 p qs above.0 rising.0, rising_push p qs rising.1 above.1)

-- ---- one more at its place

has-at : {T : Type 0} (s : List ℕ) (p : List ℕ × T) (ps : List (List ℕ × T)) (b : Bool) (o : Option ℕ) (i : ℕ) → ((j : ℕ) → o ≡ Some j → has_name s ps ≡ true) → (if b then Some 0 else option_map suc o) ≡ Some i → (b || has_name s ps) ≡ true
has-at s p ps true o i rest h = refl
has-at s p ps false None i rest h = absurd cc
has-at s p ps false (Some j) i rest h = rest j refl

pub has_at : {T : Type 0} (s : List ℕ) (ps : List (List ℕ × T)) (i : ℕ) → place s ps ≡ Some i → has_name s ps ≡ true
has_at s [] i h = absurd cc
has_at s (p ∷ ps) i h = has-at s p ps (bytes_eq p.0 s) (place s ps) i (has_at s ps) h

apart_below : {T : Type 0} (s : List ℕ) (ps : List (List ℕ × T)) → IsBelow s ps → has_name s ps ≡ false
apart_below s [] below = refl
apart_below s (p ∷ ps) below =
    let turn : slice_cmp nat_cmp p.0 s ≡ Greater = nat_list_cmp_total.antisymm p.0 s ∙ ap ordering_reverse below.0 in
    let other : bytes_eq p.0 s ≡ false = sym (is_eq-slice_cmp p.0 s) ∙ ap is_eq turn in
    ap (λ b. b || has_name s ps) other ∙ apart_below s ps below.1

pub apart : {T : Type 0} (s : List ℕ) (ps : List (List ℕ × T)) (i : ℕ) → IsPlace s ps i → has_name s ps ≡ false
apart s [] i at_place = refl
apart s (p ∷ ps) zero at_place = apart_below s (p ∷ ps) at_place.2
apart s (p ∷ ps) (suc i) at_place =
    let other : bytes_eq p.0 s ≡ false = sym (is_eq-slice_cmp p.0 s) ∙ ap is_eq at_place.1.0 in
    ap (λ b. b || has_name s ps) other ∙ apart s ps i (omega arith, at_place.1.1, at_place.2)

pub none_at : {T : Type 0} (s : List ℕ) (ps : List (List ℕ × T)) (i : ℕ) → IsPlace s ps i → place s ps ≡ None
none_at s ps i at_place = absent s ps i at_place.1 at_place.2

with_first : {T : Type 0} (p : List ℕ × T) (ps : List (List ℕ × T)) → IsBelow p.0 ps → with_name p ps ≡ p ∷ ps
with_first p [] below = refl
with_first p (q ∷ qs) below = ap (λ b. if b then p ∷ q ∷ qs else q ∷ with_name p qs) (ap is_lt below.0)

inserted : {T : Type 0} (p : List ℕ × T) (ps : List (List ℕ × T)) (i : ℕ) → IsPlace p.0 ps i → insert ps i p ≡ with_name p ps
inserted p [] zero at_place = refl
inserted p [] (suc i) at_place = absurd (omega arith)
inserted p (q ∷ qs) zero at_place = sym (with_first p (q ∷ qs) at_place.2)
inserted p (q ∷ qs) (suc i) at_place =
    let turn : slice_cmp nat_cmp p.0 q.0 ≡ Greater = nat_list_cmp_total.antisymm p.0 q.0 ∙ ap ordering_reverse at_place.1.0 in
    ap (λ l. q ∷ l) (inserted p qs i (omega arith, at_place.1.1, at_place.2)) ∙ sym (ap (λ b. if b then p ∷ q ∷ qs else q ∷ with_name p qs) (ap is_lt turn))

below_with : {T : Type 0} (s : List ℕ) (p : List ℕ × T) (ps : List (List ℕ × T)) (i : ℕ) → slice_cmp nat_cmp s p.0 ≡ Less → IsBelow s ps → IsBelow s (insert ps i p)
below_with s p [] zero h below = (h, tt)
below_with s p [] (suc i) h below = (h, tt)
below_with s p (q ∷ qs) zero h below = (h, below)
below_with s p (q ∷ qs) (suc i) h below = (below.0, below_with s p qs i h below.1)

pub rising_with : {T : Type 0} (p : List ℕ × T) (ps : List (List ℕ × T)) (i : ℕ) → AreRising ps → IsPlace p.0 ps i → AreRising (insert ps i p)
rising_with p [] zero rising at_place = (tt, tt)
rising_with p [] (suc i) rising at_place = (tt, tt)
rising_with p (q ∷ qs) zero rising at_place = (at_place.2, rising)
rising_with p (q ∷ qs) (suc i) rising at_place = (below_with q.0 p qs i at_place.1.0 rising.0, rising_with p qs i rising.1 (omega arith, at_place.1.1, at_place.2))

-- a pair that is put at its place, as the definition puts it
pub kept_with : {T : Type 0} (p : List ℕ × T) (ps : List (List ℕ × T)) (i : ℕ) → IsPlace p.0 ps i → insert ps i p ≡ (if has_name p.0 ps then ps else with_name p ps)
kept_with p ps i at_place = inserted p ps i at_place ∙ sym (ap (λ b. if b then ps else with_name p ps) (apart p.0 ps i at_place))
