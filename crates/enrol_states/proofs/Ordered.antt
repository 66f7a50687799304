-- Texts in order, and searches among items in order by their texts.
pub use Rattle.sequences.proofs.Texts.{equal_texts, same_texts, lesser_texts, greater_texts, turned_up, turned_down, less_trans, bytes_turned, above_trans}
pub use Rattle.sequences.proofs.Searching.{order_by, text_at, rises_by}
use Rattle.std.proofs.Common.{◌≡◌, ℕ, zero, suc, ◌<◌, true, false, List, [], ◌∷◌, map, length, get_or, Equal, Err, refl, sym, ap, ◌∙◌, subst, arith}
use Rattle.std.specs.Prelude.{bytes_eq, ◌||◌}
use Rattle.std.specs.List.{HoldsAt, insert}
use Rattle.std.specs.BTreeSet.{insert_key}
use Rattle.std.specs.List.Sorted.{IsBinarySearchResult}
use Rattle.std.specs.Ordering.{match_ordering}
use Rattle.std.proofs.Math.Bool.{or-true}
use Rattle.recipe_reader.specs.Payloads.{slug_cmp}
use Rattle.enrol_states.specs.Order.{Rise, AreAbove, IsPlace, is_in}
use Rattle.sequences.proofs.Searching.{place_around}
use Rattle.sequences.proofs.Insertions.{insert_first}

-- ---- searches

-- what a binary search that finds no item of that text says
pub place_searched : {X : Type 0} (text : X → List ℕ) (s : List ℕ) (xs : List X) (i : ℕ) → Rise (map text xs) → IsBinarySearchResult (order_by text s) xs (Err i) → IsPlace s (map text xs) i
place_searched text s xs i rise h =
    let around = place_around text s xs i rise h in
    record { below = around.0; above = around.1 }

pub map_itself : (ts : List (List ℕ)) → map (λ t. t) ts ≡ ts
map_itself [] = refl
map_itself (t ∷ ts) = ap (λ us. t ∷ us) (map_itself ts)

-- ---- whether a text is one of a list

pub is_in-at : (s : List ℕ) (ts : List (List ℕ)) (i : ℕ) (d : List ℕ) → i < length ts → slug_cmp (get_or ts i d) s ≡ Equal → is_in ts s ≡ true
is_in-at s [] i d less e = absurd (omega arith)
is_in-at s (t ∷ ts) zero d less e = ap (λ b. b || is_in ts s) (equal_texts t s e)
is_in-at s (t ∷ ts) (suc i) d less e = ap (λ b. bytes_eq t s || b) (is_in-at s ts i d (omega arith) e) ∙ or-true (bytes_eq t s)

pub is_in-above : (s : List ℕ) (ts : List (List ℕ)) → AreAbove s ts → is_in ts s ≡ false
is_in-above s [] above = refl
is_in-above s (t ∷ ts) above = ap (λ b. b || is_in ts s) (greater_texts t s (turned_up s t above.0)) ∙ is_in-above s ts above.1

pub is_in-place : (s : List ℕ) (ts : List (List ℕ)) (i : ℕ) → IsPlace s ts i → is_in ts s ≡ false
is_in-place s [] i place = refl
is_in-place s (t ∷ ts) zero place = is_in-above s (t ∷ ts) place.above
is_in-place s (t ∷ ts) (suc i) place = ap (λ b. b || is_in ts s) (lesser_texts t s place.below.0) ∙ is_in-place s ts i (record { below = place.below.1; above = place.above })

-- what a search that finds the text says, and one that doesn't
pub is_in-searched : (s : List ℕ) (ts : List (List ℕ)) (i : ℕ) → i < length ts → HoldsAt (λ t. slug_cmp t s ≡ Equal) ts i → is_in ts s ≡ true
is_in-searched s ts i within here = is_in-at s ts i s within (here s)

pub place_missed : (s : List ℕ) (ts : List (List ℕ)) (i : ℕ) → Rise ts → IsBinarySearchResult (order_by (λ t. t) s) ts (Err i) → IsPlace s ts i
place_missed s ts i rise h =
    let itself = map_itself ts in
    subst (λ us. IsPlace s us i) itself (place_searched (λ t. t) s ts i (subst Rise (sym itself) rise) h)

pub is_in-missed : (s : List ℕ) (ts : List (List ℕ)) (i : ℕ) → Rise ts → IsBinarySearchResult (order_by (λ t. t) s) ts (Err i) → is_in ts s ≡ false
is_in-missed s ts i rise h = is_in-place s ts i (place_missed s ts i rise h)

-- ---- one more text

pub inserted : (s : List ℕ) (ts : List (List ℕ)) (i : ℕ) → IsPlace s ts i → insert ts i s ≡ insert_key slug_cmp ts s
inserted s [] zero place = refl
inserted s [] (suc i) place = refl
inserted s (t ∷ ts) zero place = sym (insert_first s (t ∷ ts) place.above)
inserted s (t ∷ ts) (suc i) place =
    ap (λ us. t ∷ us) (inserted s ts i (record { below = place.below.1; above = place.above }))
    ∙ sym (ap (λ o. match_ordering o (s ∷ t ∷ ts) (t ∷ ts) (t ∷ insert_key slug_cmp ts s)) (turned_up t s place.below.0))
