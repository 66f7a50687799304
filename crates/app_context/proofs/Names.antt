-- Names in order, and the text of one.
use Rattle.std.proofs.Common.{◌≡◌, ℕ, zero, suc, ◌<◌, false, List, [], ◌∷◌, ◌++◌, length, get_or, Less, Equal, Some, None, Err, refl, ap, ◌∙◌, subst, arith}
use Rattle.std.specs.Prelude.{bytes_eq, if◌then◌else◌}
use Rattle.std.specs.List.{AllByRecursion}
use Rattle.std.specs.List.Sorted.{IsStrictlySortedBy, IsBinarySearchResult}
use Rattle.recipe_reader.specs.Payloads.{slug_cmp}
use Rattle.enrol_states.specs.Order.{AreAbove, AreBelow, IsPlace}
use Rattle.enrol_states.proofs.Ordered.{order_by, equal_texts, same_texts, lesser_texts, greater_texts, turned_up, text_at, place_searched}
use Rattle.app_context.specs.Named.{names_of, AreInOrder, text_with}

abbrev pub name_of : List ℕ × List ℕ → List ℕ
name_of p = p.0

pub order_none : AreInOrder []
unfolding IsStrictlySortedBy
order_none = tt

-- ---- one more name, above the others

above_push : (name : List ℕ) (ps : List (List ℕ × List ℕ)) (p : List ℕ × List ℕ) → AreAbove name (names_of ps) → slug_cmp name p.0 ≡ Less → AreAbove name (names_of (ps ++ p ∷ []))
above_push name [] p above less = (less, tt)
above_push name (q ∷ ps) p above less = (above.0, above_push name ps p above.1 less)

pub order_push : (ps : List (List ℕ × List ℕ)) (p : List ℕ × List ℕ) → AreInOrder ps → AreBelow p.0 (names_of ps) → AreInOrder (ps ++ p ∷ [])
unfolding IsStrictlySortedBy
order_push [] p order below = (tt, tt)
order_push (q ∷ ps) p order below = (above_push q.0 ps p order.0 below.0, order_push ps p order.1 below.1)

-- ---- the text of a name

-- the pair at a place whose name is this one is the one with it
pub text-at : (name : List ℕ) (ps : List (List ℕ × List ℕ)) (i : ℕ) (d : List ℕ × List ℕ) → i < length ps → AreInOrder ps → slug_cmp (get_or ps i d).0 name ≡ Equal → text_with name ps ≡ Some (get_or ps i d).1
unfolding IsStrictlySortedBy
text-at name [] i d less order e = absurd (omega arith)
text-at name (p ∷ ps) zero d less order e = ap (λ b. if b then Some p.1 else text_with name ps) (equal_texts p.0 name e)
text-at name (p ∷ ps) (suc i) d less order e =
    let same = same_texts (get_or ps i d).0 name e in
    let below : slug_cmp p.0 name ≡ Less = subst (λ t. slug_cmp p.0 t ≡ Less) same (text_at (λ t. slug_cmp p.0 t ≡ Less) name_of ps i d (omega arith) order.0) in
    ap (λ b. if b then Some p.1 else text_with name ps) (lesser_texts p.0 name below) ∙ text-at name ps i d (omega arith) order.1 e

-- a name that isn't among the others has no text
no_pair : (p : List ℕ × List ℕ) (name : List ℕ) (ps : List (List ℕ × List ℕ)) → bytes_eq p.0 name ≡ false → text_with name ps ≡ None → text_with name (p ∷ ps) ≡ None
no_pair p name ps other none = ap (λ b. if b then Some p.1 else text_with name ps) other ∙ none

text-above : (name : List ℕ) (ps : List (List ℕ × List ℕ)) → AllByRecursion (λ t. slug_cmp name t ≡ Less) (names_of ps) → text_with name ps ≡ None
text-above name [] above = refl
text-above name (p ∷ ps) above = no_pair p name ps (greater_texts p.0 name (turned_up name p.0 above.0)) (text-above name ps above.1)

text-place : (name : List ℕ) (ps : List (List ℕ × List ℕ)) (i : ℕ) → IsPlace name (names_of ps) i → text_with name ps ≡ None
text-place name [] i place = refl
text-place name (p ∷ ps) zero place = text-above name (p ∷ ps) place.above
text-place name (p ∷ ps) (suc i) place = no_pair p name ps (lesser_texts p.0 name place.below.0) (text-place name ps i (record { below = place.below.1; above = place.above }))

-- what a search that finds no such name says
pub text-absent : (name : List ℕ) (ps : List (List ℕ × List ℕ)) (i : ℕ) → AreInOrder ps → IsBinarySearchResult (order_by name_of name) ps (Err i) → text_with name ps ≡ None
text-absent name ps i order h = text-place name ps i (place_searched name_of name ps i order h)
