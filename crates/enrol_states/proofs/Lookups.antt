-- The status of a slug among rows in order, found by a search.
use Rattle.std.proofs.Common.{◌≡◌, ℕ, zero, suc, ◌<◌, false, List, [], ◌∷◌, length, get_or, Option, Some, None, Less, Equal, Err, refl, ap, ◌∙◌, subst, arith}
use Rattle.std.specs.Prelude.{bytes_eq, if◌then◌else◌}
use Rattle.std.specs.List.{AllByRecursion}
use Rattle.std.specs.Option.{is_some, option_map}
use Rattle.std.specs.List.Sorted.{IsStrictlySortedBy, IsBinarySearchResult}
use Rattle.recipe_reader.specs.Payloads.{slug_cmp}
use Rattle.enrol_states.specs.Order.{Rise, IsPlace}
use Rattle.enrol_states.specs.State.{slugs_of, status_of}
use Rattle.enrol_states.specs.declared.state.Row.{Row}
use Rattle.enrol_states.proofs.Ordered.{order_by, equal_texts, same_texts, lesser_texts, greater_texts, turned_up, text_at, place_searched}

abbrev pub slug_of : Row → List ℕ
slug_of row = row.slug

pub is_some-map : {A B : Type 0} (f : A → B) (o : Option A) → is_some (option_map f o) ≡ is_some o
is_some-map f None = refl
is_some-map f (Some a) = refl

-- the row at a place whose slug is this one is the one with it
pub status-at : (slug : List ℕ) (rows : List Row) (i : ℕ) (d : Row) → i < length rows → Rise (slugs_of rows) → slug_cmp (get_or rows i d).slug slug ≡ Equal → status_of slug rows ≡ Some (get_or rows i d).status
unfolding IsStrictlySortedBy
status-at slug [] i d less rise e = absurd (omega arith)
status-at slug (r ∷ rs) zero d less rise e = ap (λ b. if b then Some r.status else status_of slug rs) (equal_texts r.slug slug e)
status-at slug (r ∷ rs) (suc i) d less rise e =
    let same = same_texts (get_or rs i d).slug slug e in
    let below : slug_cmp r.slug slug ≡ Less = subst (λ t. slug_cmp r.slug t ≡ Less) same (text_at (λ t. slug_cmp r.slug t ≡ Less) slug_of rs i d (omega arith) rise.0) in
    ap (λ b. if b then Some r.status else status_of slug rs) (lesser_texts r.slug slug below) ∙ status-at slug rs i d (omega arith) rise.1 e

-- a slug that isn't among the rows' has no status
no_row : (r : Row) (slug : List ℕ) (rs : List Row) → bytes_eq r.slug slug ≡ false → status_of slug rs ≡ None → status_of slug (r ∷ rs) ≡ None
no_row r slug rs other none = ap (λ b. if b then Some r.status else status_of slug rs) other ∙ none

status-above : (slug : List ℕ) (rows : List Row) → AllByRecursion (λ t. slug_cmp slug t ≡ Less) (slugs_of rows) → status_of slug rows ≡ None
status-above slug [] above = refl
status-above slug (r ∷ rs) above = no_row r slug rs (greater_texts r.slug slug (turned_up slug r.slug above.0)) (status-above slug rs above.1)

pub status-place : (slug : List ℕ) (rows : List Row) (i : ℕ) → IsPlace slug (slugs_of rows) i → status_of slug rows ≡ None
status-place slug [] i place = refl
status-place slug (r ∷ rs) zero place = status-above slug (r ∷ rs) place.above
status-place slug (r ∷ rs) (suc i) place = no_row r slug rs (lesser_texts r.slug slug place.below.0) (status-place slug rs i (record { below = place.below.1; above = place.above }))

-- what a search that finds no row says
pub status-absent : (slug : List ℕ) (rows : List Row) (i : ℕ) → Rise (slugs_of rows) → IsBinarySearchResult (order_by slug_of slug) rows (Err i) → status_of slug rows ≡ None
status-absent slug rows i rise h = status-place slug rows i (place_searched slug_of slug rows i rise h)
