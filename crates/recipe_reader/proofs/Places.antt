-- Recipes in order by slug, and the place of one more.
use Rattle.std.proofs.Common.{◌≡◌, ℕ, zero, suc, ◌<◌, Bool, true, false, List, [], ◌∷◌, ◌++◌, length, get_or, Less, Equal, Greater, refl, sym, ap, ◌∙◌, arith}
use Rattle.std.specs.Prelude.{◌||◌, bytes_eq, if◌then◌else◌, Some, None, slice_get}
use Rattle.std.specs.Ordering.{ordering_reverse, is_eq, is_lt}
use Rattle.std.specs.List.{insert}
use Rattle.std.proofs.lemmas.Cmp.{nat_list_cmp_total}
use Rattle.std.proofs.lemmas.Map.Text.{is_eq-slice_cmp}
use Rattle.std.proofs.Math.Bool.{or-true}
use Rattle.sequences.proofs.Texts.{turned_down}
use Rattle.recipe_reader.specs.declared.recipe.Recipe.{Recipe}
use Rattle.recipe_reader.specs.Records.{IsValid}
use Rattle.recipe_reader.specs.Payloads.{slug_cmp, AreAbove, AreBelow, AreInOrder, AreValid, has_slug, recipe_with, with_recipe, IsPlace}

pub above_at : (a : List ℕ) (rs : List Recipe) (i : ℕ) (d : Recipe) → i < length rs → AreAbove a rs → slug_cmp a (get_or rs i d).slug ≡ Less
above_at a [] i d lt above = absurd (omega arith)
above_at a (r ∷ rs) zero d lt above = above.0
above_at a (r ∷ rs) (suc i) d lt above = above_at a rs i d (omega arith) above.1

pub has_at : (s : List ℕ) (rs : List Recipe) (i : ℕ) (d : Recipe) → i < length rs → slug_cmp (get_or rs i d).slug s ≡ Equal → has_slug s rs ≡ true
has_at s [] i d lt h = absurd (omega arith)
has_at s (r ∷ rs) zero d lt h =
    let same : bytes_eq r.slug s ≡ true = sym (is_eq-slice_cmp r.slug s) ∙ ap is_eq h in
    ap (λ b. b || has_slug s rs) same
has_at s (r ∷ rs) (suc i) d lt h = ap (λ b. bytes_eq r.slug s || b) (has_at s rs i d (omega arith) h) ∙ or-true (bytes_eq r.slug s)

-- the recipe at the place of the slug is the one with it
pub with_at : (s : List ℕ) (rs : List Recipe) (i : ℕ) (d : Recipe) → i < length rs → AreInOrder rs → slug_cmp (get_or rs i d).slug s ≡ Equal → recipe_with s rs ≡ slice_get rs i
with_at s [] i d lt order h = absurd (omega arith)
with_at s (r ∷ rs) zero d lt order h =
    let same : bytes_eq r.slug s ≡ true = sym (is_eq-slice_cmp r.slug s) ∙ ap is_eq h in
    ap (λ b. if b then Some r else recipe_with s rs) same
with_at s (r ∷ rs) (suc i) d lt order h =
    let found = (get_or rs i d).slug in
    let above : slug_cmp found r.slug ≡ Greater = nat_list_cmp_total.antisymm found r.slug ∙ ap ordering_reverse (above_at r.slug rs i d (omega arith) order.0) in
    let less : slug_cmp r.slug s ≡ Less = turned_down s r.slug (sym (nat_list_cmp_total.congr found s r.slug h) ∙ above) in
    let other : bytes_eq r.slug s ≡ false = sym (is_eq-slice_cmp r.slug s) ∙ ap is_eq less in
    ap (λ b. if b then Some r else recipe_with s rs) other ∙ with_at s rs i d (omega arith) order.1 h

apart_above : (s : List ℕ) (rs : List Recipe) → AreAbove s rs → has_slug s rs ≡ false
apart_above s [] above = refl
apart_above s (r ∷ rs) above =
    let turn : slug_cmp r.slug s ≡ Greater = nat_list_cmp_total.antisymm r.slug s ∙ ap ordering_reverse above.0 in
    let other : bytes_eq r.slug s ≡ false = sym (is_eq-slice_cmp r.slug s) ∙ ap is_eq turn in
    ap (λ b. b || has_slug s rs) other ∙ apart_above s rs above.1

pub apart : (s : List ℕ) (rs : List Recipe) (i : ℕ) → IsPlace s rs i → has_slug s rs ≡ false
apart s [] i place = refl
apart s (r ∷ rs) zero place = apart_above s (r ∷ rs) place.2
apart s (r ∷ rs) (suc i) place =
    let other : bytes_eq r.slug s ≡ false = sym (is_eq-slice_cmp r.slug s) ∙ ap is_eq place.1.0 in
    ap (λ b. b || has_slug s rs) other ∙ apart s rs i (omega arith, place.1.1, place.2)

-- there is no recipe with a slug that none has
none_of : (s : List ℕ) (r : Recipe) (rs : List Recipe) (b : Bool) → (has_slug s rs ≡ false → recipe_with s rs ≡ None) → (b || has_slug s rs) ≡ false → (if b then Some r else recipe_with s rs) ≡ None
none_of s r rs true rest h = absurd cc
none_of s r rs false rest h = rest h

none_with : (s : List ℕ) (rs : List Recipe) → has_slug s rs ≡ false → recipe_with s rs ≡ None
none_with s [] h = refl
none_with s (r ∷ rs) h = none_of s r rs (bytes_eq r.slug s) (none_with s rs) h

pub none_at_place : (s : List ℕ) (rs : List Recipe) (i : ℕ) → IsPlace s rs i → recipe_with s rs ≡ None
none_at_place s rs i place = none_with s rs (apart s rs i place)

with_first : (r : Recipe) (rs : List Recipe) → AreAbove r.slug rs → with_recipe r rs ≡ r ∷ rs
with_first r [] above = refl
with_first r (q ∷ qs) above = ap (λ b. if b then r ∷ q ∷ qs else q ∷ with_recipe r qs) (ap is_lt above.0)

pub inserted : (r : Recipe) (rs : List Recipe) (i : ℕ) → IsPlace r.slug rs i → insert rs i r ≡ with_recipe r rs
inserted r [] zero place = refl
inserted r [] (suc i) place = absurd (omega arith)
inserted r (q ∷ qs) zero place = sym (with_first r (q ∷ qs) place.2)
inserted r (q ∷ qs) (suc i) place =
    let turn : slug_cmp r.slug q.slug ≡ Greater = nat_list_cmp_total.antisymm r.slug q.slug ∙ ap ordering_reverse place.1.0 in
    ap (λ l. q ∷ l) (inserted r qs i (omega arith, place.1.1, place.2)) ∙ sym (ap (λ b. if b then r ∷ q ∷ qs else q ∷ with_recipe r qs) (ap is_lt turn))

above_with : (s : List ℕ) (r : Recipe) (rs : List Recipe) (i : ℕ) → slug_cmp s r.slug ≡ Less → AreAbove s rs → AreAbove s (insert rs i r)
above_with s r [] zero h above = (h, tt)
above_with s r [] (suc i) h above = (h, tt)
above_with s r (q ∷ qs) zero h above = (h, above)
above_with s r (q ∷ qs) (suc i) h above = (above.0, above_with s r qs i h above.1)

pub order_with : (r : Recipe) (rs : List Recipe) (i : ℕ) → AreInOrder rs → IsPlace r.slug rs i → AreInOrder (insert rs i r)
order_with r [] zero order place = (tt, tt)
order_with r [] (suc i) order place = (tt, tt)
order_with r (q ∷ qs) zero order place = (place.2, order)
order_with r (q ∷ qs) (suc i) order place = (above_with q.slug r qs i place.1.0 order.0, order_with r qs i order.1 (omega arith, place.1.1, place.2))

pub valid_with : (r : Recipe) (rs : List Recipe) (i : ℕ) → IsValid r → AreValid rs → AreValid (insert rs i r)
valid_with r [] zero one all = (one, tt)
valid_with r [] (suc i) one all = (one, tt)
valid_with r (q ∷ qs) zero one all = (one, all)
valid_with r (q ∷ qs) (suc i) one all = (all.0, valid_with r qs i one all.1)

-- one more at the end, above each that is there
above_push : (s : List ℕ) (r : Recipe) (rs : List Recipe) → slug_cmp s r.slug ≡ Less → AreAbove s rs → AreAbove s (rs ++ r ∷ [])
above_push s r [] h above = (h, tt)
above_push s r (q ∷ qs) h above = (above.0, above_push s r qs h above.1)

pub order_push : (r : Recipe) (rs : List Recipe) → AreInOrder rs → AreBelow r.slug rs → AreInOrder (rs ++ r ∷ [])
order_push r [] order below = (tt, tt)
order_push r (q ∷ qs) order below = (above_push q.slug r qs below.0 order.0, order_push r qs order.1 below.1)

-- a recipe that is put at its place, as the definition puts it
pub kept_with : (r : Recipe) (rs : List Recipe) (i : ℕ) → IsPlace r.slug rs i → insert rs i r ≡ (if has_slug r.slug rs then rs else with_recipe r rs)
kept_with r rs i place = inserted r rs i place ∙ sym (ap (λ b. if b then rs else with_recipe r rs) (apart r.slug rs i place))
