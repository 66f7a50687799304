-- What an opt-out makes of rows.
use Rattle.std.proofs.Common.{◌≡◌, ℕ, zero, suc, ◌<◌, Bool, true, false, List, [], ◌∷◌, length, get_or, map, None, Less, Equal, refl, ap, ap₂, ◌∙◌, subst, sym, arith}
use Rattle.std.specs.Prelude.{All, slice_set, ◌&&◌, bytes_eq, if◌then◌else◌}
use Rattle.std.specs.List.{list_any}
use Rattle.std.specs.List.Sorted.{IsStrictlySortedBy}
use Rattle.std.proofs.lemmas.List.Elements.{All-map, All-weaker}
use Rattle.std.specs.Cmp.{second_so}
use Rattle.std.proofs.lemmas.Bool.{or_parts}
use Rattle.recipe_reader.specs.Payloads.{slug_cmp, recipe_with}
use Rattle.enrol_states.specs.Order.{Rise, AreAbove, IsPlace}
use Rattle.enrol_states.specs.Statuses.{IsStatus, is_enrolled, was_enrolled, enrolled_branch}
use Rattle.enrol_states.specs.State.{slugs_of}
use Rattle.enrol_states.specs.Participation.{covers_recipe}
use Rattle.enrol_states.specs.Commands.{opted_out, row_opted_out, opted_out_of, row_left, leaves, changes_at_opt_out}
use Rattle.enrol_states.specs.declared.participation.Kinds.{Kinds}
use Rattle.enrol_states.specs.declared.state.State.{State}
use Rattle.enrol_states.specs.declared.state.Row.{Row}
use Rattle.enrol_states.specs.declared.status.Status.{Status}
use Rattle.enrol_states.specs.declared.status.Status.TheVariants as statuses
use Rattle.enrol_states.specs.declared.status.NotEnrolledReason.TheVariants as not_enrolled
use Rattle.enrol_states.proofs.Ordered.{same_texts, equal_texts, lesser_texts, greater_texts, turned_up, text_at}
use Rattle.enrol_states.proofs.Lookups.{slug_of}

pub is_enrolled-opted_out : (s : Status) → is_enrolled (opted_out s) ≡ false
is_enrolled-opted_out (statuses.Enrolled reason branch) = refl
is_enrolled-opted_out (statuses.NotEnrolled reason) = refl
is_enrolled-opted_out (statuses.Disqualified reason branch) = refl
is_enrolled-opted_out (statuses.WasEnrolled branch ended) = refl
is_enrolled-opted_out (statuses.Error cause) = refl

pub enrolled_branch-opted_out : (s : Status) → enrolled_branch (opted_out s) ≡ None
enrolled_branch-opted_out (statuses.Enrolled reason branch) = refl
enrolled_branch-opted_out (statuses.NotEnrolled reason) = refl
enrolled_branch-opted_out (statuses.Disqualified reason branch) = refl
enrolled_branch-opted_out (statuses.WasEnrolled branch ended) = refl
enrolled_branch-opted_out (statuses.Error cause) = refl

pub was_enrolled-opted_out : (s : Status) → was_enrolled (opted_out s) ≡ was_enrolled s
was_enrolled-opted_out (statuses.Enrolled reason branch) = refl
was_enrolled-opted_out (statuses.NotEnrolled reason) = refl
was_enrolled-opted_out (statuses.Disqualified reason branch) = refl
was_enrolled-opted_out (statuses.WasEnrolled branch ended) = refl
was_enrolled-opted_out (statuses.Error cause) = refl

pub IsStatus-opted_out : (s : Status) → IsStatus s → IsStatus (opted_out s)
IsStatus-opted_out (statuses.Enrolled reason branch) h = h
IsStatus-opted_out (statuses.NotEnrolled reason) h = tt
IsStatus-opted_out (statuses.Disqualified reason branch) h = h
IsStatus-opted_out (statuses.WasEnrolled branch ended) h = h
IsStatus-opted_out (statuses.Error cause) h = tt

-- what holds of rows holds of their images, if it is kept
pub All-image : (P Q : Row → Type 0) (g : Row → Row) (rows : List Row) → ((row : Row) → P row → Q (g row)) → All P rows → All Q (map g rows)
All-image P Q g rows kept all = All-map Q g rows (All-weaker P (λ row. Q (g row)) kept rows all)

pub slugs-image : (g : Row → Row) (rows : List Row) → ((row : Row) → (g row).slug ≡ row.slug) → slugs_of (map g rows) ≡ slugs_of rows
slugs-image g [] same = refl
slugs-image g (row ∷ rows) same = ap (λ s. s ∷ slugs_of (map g rows)) (same row) ∙ ap (λ ss. row.slug ∷ ss) (slugs-image g rows same)

chosen : (P : Row → Type 0) (row : Row) (b : Bool) → P (row_opted_out row) → (b ≡ false → P row) → P (if b then row_opted_out row else row)
chosen P row true out same = out
chosen P row false out same = same refl

-- what holds of the row after an opt-out, and of a row of another slug
pub either : (P : Row → Type 0) (slug : List ℕ) (row : Row) → P (row_opted_out row) → (bytes_eq row.slug slug ≡ false → P row) → P (opted_out_of slug row)
either P slug row out same = chosen P row (bytes_eq row.slug slug) out same

-- what holds of the row after an opt-out, and of a row whose live recipe isn't of these kinds
pub left_or_same : (P : Row → Type 0) (s : State) (kinds : Kinds) (row : Row) → P (row_opted_out row) → (covers_recipe kinds (recipe_with row.slug s.live) ≡ false → P row) → P (row_left s kinds row)
left_or_same P s kinds row out same = chosen P row (covers_recipe kinds (recipe_with row.slug s.live)) out same

-- ---- the one row of a slug

other_stays : (slug : List ℕ) (row : Row) → bytes_eq row.slug slug ≡ false → opted_out_of slug row ≡ row
other_stays slug row other = ap (λ b. if b then row_opted_out row else row) other

above-stay : (slug : List ℕ) (rows : List Row) → AreAbove slug (slugs_of rows) → map (opted_out_of slug) rows ≡ rows
above-stay slug [] above = refl
above-stay slug (q ∷ qs) above = ap₂ (λ r rs. r ∷ rs) (other_stays slug q (greater_texts q.slug slug (turned_up slug q.slug above.0))) (above-stay slug qs above.1)

-- rows of other slugs stay
pub place-stay : (slug : List ℕ) (rows : List Row) (i : ℕ) → IsPlace slug (slugs_of rows) i → map (opted_out_of slug) rows ≡ rows
place-stay slug [] i place = refl
place-stay slug (q ∷ qs) zero place = above-stay slug (q ∷ qs) place.above
place-stay slug (q ∷ qs) (suc i) place = ap₂ (λ r rs. r ∷ rs) (other_stays slug q (lesser_texts q.slug slug place.below.0)) (place-stay slug qs i (record { below = place.below.1; above = place.above }))

-- the row of the slug alone is another
pub opted_out-at : (slug : List ℕ) (rows : List Row) (i : ℕ) (d : Row) → i < length rows → Rise (slugs_of rows) → slug_cmp (get_or rows i d).slug slug ≡ Equal → slice_set rows i (row_opted_out (get_or rows i d)) ≡ map (opted_out_of slug) rows
unfolding IsStrictlySortedBy
opted_out-at slug [] i d less rise e = absurd (omega (arith, less))
opted_out-at slug (q ∷ qs) zero d less rise e =
    let same : q.slug ≡ slug = same_texts q.slug slug e in
    ap₂ (λ r rs. r ∷ rs) (sym (ap (λ b. if b then row_opted_out q else q) (equal_texts q.slug slug e))) (sym (above-stay slug qs (subst (λ t. AreAbove t (slugs_of qs)) same rise.0)))
opted_out-at slug (q ∷ qs) (suc i) d less rise e =
    let same = same_texts (get_or qs i d).slug slug e in
    let below : slug_cmp q.slug slug ≡ Less = subst (λ t. slug_cmp q.slug t ≡ Less) same (text_at (λ t. slug_cmp q.slug t ≡ Less) slug_of qs i d (omega arith) rise.0) in
    ap₂ (λ r rs. r ∷ rs) (sym (other_stays slug q (lesser_texts q.slug slug below))) (opted_out-at slug qs i d (omega arith) rise.1 e)

-- ---- rows that an opt-out leaves as they are

left_as_is : (s : Status) → changes_at_opt_out s ≡ false → opted_out s ≡ s
left_as_is (statuses.Enrolled reason branch) none = absurd cc
left_as_is (statuses.NotEnrolled not_enrolled.DifferentAppName) none = absurd cc
left_as_is (statuses.NotEnrolled not_enrolled.DifferentChannel) none = absurd cc
left_as_is (statuses.NotEnrolled not_enrolled.EnrollmentsPaused) none = absurd cc
left_as_is (statuses.NotEnrolled not_enrolled.FeatureConflict) none = absurd cc
left_as_is (statuses.NotEnrolled not_enrolled.NotSelected) none = absurd cc
left_as_is (statuses.NotEnrolled not_enrolled.NotTargeted) none = absurd cc
left_as_is (statuses.NotEnrolled not_enrolled.OptOut) none = refl
left_as_is (statuses.Disqualified reason branch) none = refl
left_as_is (statuses.WasEnrolled branch ended) none = refl
left_as_is (statuses.Error cause) none = refl

row_stays : (row : Row) → changes_at_opt_out row.status ≡ false → row_opted_out row ≡ row
row_stays row none = ap (λ (st : Status). record { slug = row.slug; status = st }) (left_as_is row.status none)

stays_at : (row : Row) (changes covered : Bool) → changes_at_opt_out row.status ≡ changes → (changes && covered) ≡ false → (if covered then row_opted_out row else row) ≡ row
stays_at row true true e none = absurd cc
stays_at row true false e none = refl
stays_at row false true e none = row_stays row e
stays_at row false false e none = refl

-- a row that the end of participation leaves as it is
pub stays : (s : State) (kinds : Kinds) (row : Row) → leaves s kinds row ≡ false → row_left s kinds row ≡ row
stays s kinds row none = stays_at row (changes_at_opt_out row.status) (covers_recipe kinds (recipe_with row.slug s.live)) refl none

-- and one that it changes
pub is_left : (s : State) (kinds : Kinds) (row : Row) → leaves s kinds row ≡ true → row_left s kinds row ≡ row_opted_out row
is_left s kinds row h = ap (λ b. if b then row_opted_out row else row) (second_so (changes_at_opt_out row.status) (covers_recipe kinds (recipe_with row.slug s.live)) h)

pub all-stay : (s : State) (kinds : Kinds) (rows : List Row) → list_any (leaves s kinds) rows ≡ false → map (row_left s kinds) rows ≡ rows
all-stay s kinds [] none = refl
all-stay s kinds (q ∷ qs) none =
    let apart = or_parts (leaves s kinds q) (list_any (leaves s kinds) qs) none in
    ap₂ (λ r rs. r ∷ rs) (stays s kinds q apart.0) (all-stay s kinds qs apart.1)
