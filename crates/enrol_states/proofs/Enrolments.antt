-- Rows and opt-outs after an opt-in.
use Rattle.std.proofs.Common.{Ordering, ◌≡◌, ℕ, zero, suc, ◌<◌, ◌≤◌, Bool, true, false, List, [], ◌∷◌, length, get_or, Some, Less, Equal, Greater, refl, sym, ap, ap₂, ◌∙◌, subst, arith}
use Rattle.std.specs.Prelude.{All, slice_set, not, ◌||◌, IsTrue, bytes_eq, if◌then◌else◌}
use Rattle.std.specs.List.{insert, remove}
use Rattle.std.specs.BTreeSet.{insert_key}
use Rattle.std.specs.Ordering.{match_ordering, ordering_reverse}
use Rattle.std.specs.Cmp.Lexicographic.{nat_list_cmp_total}
use Rattle.std.specs.List.Sorted.{IsStrictlySortedBy}
use Rattle.std.proofs.lemmas.List.Elements.{All-cons, All-head, All-tail, All-nil, All-filter, All-weaker}
use Rattle.std.proofs.lemmas.List.Filters.{length-filter_both}
use Rattle.std.proofs.lemmas.List.Kept.{IsStrictlySortedBy-filter}
use Rattle.std.proofs.lemmas.Map.Views.{any-filter_same}
use Rattle.std.proofs.lemmas.Bool.{or_parts}
use Rattle.sequences.proofs.Alls.{all_at}
use Rattle.recipe_reader.specs.Payloads.{slug_cmp, has_slug, recipe_with}
use Rattle.recipe_reader.specs.declared.recipe.Recipe.{Recipe}
use Rattle.enrol_states.specs.Order.{Rise, AreAbove, IsPlace, is_in}
use Rattle.enrol_states.specs.Statuses.{IsSlug, IsStatus}
use Rattle.enrol_states.specs.State.{slugs_of}
use Rattle.enrol_states.specs.Recipes.{offers}
use Rattle.enrol_states.specs.Participation.{may_take_part}
use Rattle.enrol_states.specs.Consistent.{HasRecipe, HasBranch, IsNotOptedOut, IsParticipating, IsConsistent}
use Rattle.enrol_states.specs.Commands.{without_text, with_row, opted_in, after_opt_in}
use Rattle.enrol_states.specs.Features.{IsFree}
use Rattle.enrol_states.specs.Choices.{MayChoose}
use Rattle.enrol_states.specs.declared.state.State.{State}
use Rattle.enrol_states.specs.declared.state.Row.{Row}
use Rattle.enrol_states.proofs.Ordered.{same_texts, equal_texts, lesser_texts, greater_texts, turned_up, text_at}
use Rattle.enrol_states.proofs.Lookups.{slug_of}
use Rattle.enrol_states.proofs.OptOuts.{rise-insert}
use Rattle.enrol_states.proofs.Exclusion as exclusion

-- ---- a row in the place of another, or at its place

picked : (r q : Row) (qs : List Row) (o : Ordering) → slug_cmp r.slug q.slug ≡ o → with_row r (q ∷ qs) ≡ match_ordering o (r ∷ q ∷ qs) (r ∷ qs) (q ∷ with_row r qs)
picked r q qs o e = ap (λ p. match_ordering p (r ∷ q ∷ qs) (r ∷ qs) (q ∷ with_row r qs)) e

pub with_row-at : (r : Row) (rows : List Row) (i : ℕ) (d : Row) → i < length rows → Rise (slugs_of rows) → slug_cmp (get_or rows i d).slug r.slug ≡ Equal → slice_set rows i r ≡ with_row r rows
unfolding IsStrictlySortedBy
with_row-at r [] i d less rise e = absurd (omega arith)
with_row-at r (q ∷ qs) zero d less rise e = sym (picked r q qs Equal (nat_list_cmp_total.antisymm r.slug q.slug ∙ ap ordering_reverse e))
with_row-at r (q ∷ qs) (suc i) d less rise e =
    let same = same_texts (get_or qs i d).slug r.slug e in
    let below : slug_cmp q.slug r.slug ≡ Less = subst (λ t. slug_cmp q.slug t ≡ Less) same (text_at (λ t. slug_cmp q.slug t ≡ Less) slug_of qs i d (omega arith) rise.0) in
    ap (λ rs. q ∷ rs) (with_row-at r qs i d (omega arith) rise.1 e) ∙ sym (picked r q qs Greater (turned_up q.slug r.slug below))

pub with_row-place : (r : Row) (rows : List Row) (i : ℕ) → IsPlace r.slug (slugs_of rows) i → insert rows i r ≡ with_row r rows
with_row-place r [] zero place = refl
with_row-place r [] (suc i) place = refl
with_row-place r (q ∷ qs) zero place = sym (picked r q qs Less place.above.0)
with_row-place r (q ∷ qs) (suc i) place =
    ap (λ rs. q ∷ rs) (with_row-place r qs i (record { below = place.below.1; above = place.above })) ∙ sym (picked r q qs Greater (turned_up q.slug r.slug place.below.0))

slugs_at : (r q : Row) (qs : List Row) (o : Ordering) → slug_cmp r.slug q.slug ≡ o → slugs_of (with_row r qs) ≡ insert_key slug_cmp (slugs_of qs) r.slug
    → slugs_of (match_ordering o (r ∷ q ∷ qs) (r ∷ qs) (q ∷ with_row r qs)) ≡ match_ordering o (r.slug ∷ q.slug ∷ slugs_of qs) (q.slug ∷ slugs_of qs) (q.slug ∷ insert_key slug_cmp (slugs_of qs) r.slug)
slugs_at r q qs Less e rest = refl
slugs_at r q qs Equal e rest = ap (λ t. t ∷ slugs_of qs) (same_texts r.slug q.slug e)
slugs_at r q qs Greater e rest = ap (λ ts. q.slug ∷ ts) rest

slugs-with_row : (r : Row) (rows : List Row) → slugs_of (with_row r rows) ≡ insert_key slug_cmp (slugs_of rows) r.slug
slugs-with_row r [] = refl
slugs-with_row r (q ∷ qs) = slugs_at r q qs (slug_cmp r.slug q.slug) refl (slugs-with_row r qs)

All-with_row : (P : Row → Type 0) (r : Row) (rows : List Row) → P r → All P rows → All P (with_row r rows)
All-with_row P r [] one all = All-cons P r [] one (All-nil P)
All-with_row P r (q ∷ qs) one all =
    let first = All-head P q qs all in
    let rest = All-tail P q qs all in
    elim (slug_cmp r.slug q.slug) as (λ o. All P (match_ordering o (r ∷ q ∷ qs) (r ∷ qs) (q ∷ with_row r qs))) [
      | Less ↦ All-cons P r (q ∷ qs) one all
      | Equal ↦ All-cons P r qs one rest
      | Greater ↦ All-cons P q (with_row r qs) first (All-with_row P r qs one rest)
    ]

-- ---- opt-outs without one

above-kept : (t : List ℕ) (ts : List (List ℕ)) → AreAbove t ts → without_text t ts ≡ ts
above-kept t [] above = refl
above-kept t (u ∷ us) above = ap₂ (λ b rest. if b then u ∷ rest else rest) (ap not (greater_texts u t (turned_up t u above.0))) (above-kept t us above.1)

-- where the text isn't one of them, all are left
pub without-place : (t : List ℕ) (ts : List (List ℕ)) (i : ℕ) → IsPlace t ts i → without_text t ts ≡ ts
without-place t [] i place = refl
without-place t (u ∷ us) zero place = above-kept t (u ∷ us) place.above
without-place t (u ∷ us) (suc i) place = ap₂ (λ b rest. if b then u ∷ rest else rest) (ap not (lesser_texts u t place.below.0)) (without-place t us i (record { below = place.below.1; above = place.above }))

-- where it is, the others are left
pub without-at : (t : List ℕ) (ts : List (List ℕ)) (i : ℕ) (d : List ℕ) → i < length ts → Rise ts → slug_cmp (get_or ts i d) t ≡ Equal → remove ts i ≡ without_text t ts
unfolding IsStrictlySortedBy
without-at t [] i d less rise e = absurd (omega (arith, less))
without-at t (u ∷ us) zero d less rise e =
    sym (ap₂ (λ b rest. if b then u ∷ rest else rest) (ap not (equal_texts u t e)) (above-kept t us (subst (λ v. AreAbove v us) (same_texts u t e) rise.0)))
without-at t (u ∷ us) (suc i) d less rise e =
    let same = same_texts (get_or us i d) t e in
    let below : slug_cmp u t ≡ Less = subst (λ v. slug_cmp u v ≡ Less) same (all_at (λ v. slug_cmp u v ≡ Less) us i d (omega arith) rise.0) in
    ap (λ rest. u ∷ rest) (without-at t us i d (omega arith) rise.1 e) ∙ sym (ap (λ b. if not b then u ∷ without_text t us else without_text t us) (lesser_texts u t below))

kept_none : (b : Bool) (u s : List ℕ) (rest : List (List ℕ)) → bytes_eq u s ≡ false → is_in rest s ≡ false → is_in (if b then u ∷ rest else rest) s ≡ false
kept_none true u s rest other none = ap (λ c. c || is_in rest s) other ∙ none
kept_none false u s rest other none = none

-- what isn't there isn't there without another
pub is_in-without : (s t : List ℕ) (ts : List (List ℕ)) → is_in ts s ≡ false → is_in (without_text t ts) s ≡ false
is_in-without s t [] none = refl
is_in-without s t (u ∷ us) none =
    let apart = or_parts (bytes_eq u s) (is_in us s) none in
    kept_none (not (bytes_eq u t)) u s (without_text t us) apart.0 (is_in-without s t us apart.1)

not_not : (b : Bool) → b ≡ not (not b)
not_not true = refl
not_not false = refl

length-without : (t : List ℕ) (ts : List (List ℕ)) → length (without_text t ts) ≤ length ts
length-without t ts =
    let both = length-filter_both (λ u. not (bytes_eq u t)) (λ u. bytes_eq u t) (λ u. not_not (bytes_eq u t)) ts in
    omega (arith, both)

pub without-itself : (s : List ℕ) (ts : List (List ℕ)) → is_in (without_text s ts) s ≡ false
without-itself s ts = any-filter_same (λ u. bytes_eq u s) (λ u. not (bytes_eq u s)) false (λ u e. ap not e) ts

-- ---- the state

has_recipe_at : (s : List ℕ) (q : Recipe) (qs : List Recipe) (r : Recipe) (b : Bool) → (recipe_with s qs ≡ Some r → has_slug s qs ≡ true) → (if b then Some q else recipe_with s qs) ≡ Some r → (b || has_slug s qs) ≡ true
has_recipe_at s q qs r true rest e = refl
has_recipe_at s q qs r false rest e = rest e

pub has_recipe : (s : List ℕ) (rs : List Recipe) (r : Recipe) → recipe_with s rs ≡ Some r → has_slug s rs ≡ true
has_recipe s [] r e = absurd cc
has_recipe s (q ∷ qs) r e = has_recipe_at s q qs r (bytes_eq q.slug s) (has_recipe s qs r) e

pub consistent : (s : State) (slug branch : List ℕ) (r : Recipe) → IsSlug slug → IsSlug branch → MayChoose s slug branch r → IsFree s r → IsConsistent s → IsConsistent (after_opt_in s slug branch)
consistent s slug branch r is_slug is_branch may free c = let t = after_opt_in s slug branch in let row = opted_in slug branch in record {
  id = c.id;
  installed = c.installed;
  updated = c.updated;
  version = c.version;
  opted_out_slugs = All-filter (λ u. not (bytes_eq u slug)) IsSlug s.opted_out c.opted_out_slugs;
  opted_out_order = IsStrictlySortedBy-filter slug_cmp (λ u. not (bytes_eq u slug)) s.opted_out c.opted_out_order;
  opted_out_limit = let fewer = length-without slug s.opted_out in let most = c.opted_out_limit in omega (arith, fewer, most);
  coenrolling_names = c.coenrolling_names;
  coenrolling_order = c.coenrolling_order;
  live = c.live;
  pending = c.pending;
  row_slugs = All-with_row (λ q. IsSlug q.slug) row s.rows is_slug c.row_slugs;
  row_order = subst Rise (sym (slugs-with_row row s.rows)) (rise-insert slug (slugs_of s.rows) c.row_order);
  row_statuses = All-with_row (λ q. IsStatus q.status) row s.rows is_branch c.row_statuses;
  row_recipes = All-with_row (HasRecipe t) row s.rows (has_recipe slug s.live r may.recipe) c.row_recipes;
  row_branches = All-with_row (HasBranch t) row s.rows (λ b e. let same : branch ≡ b = cc in subst (λ x. IsTrue (offers (recipe_with slug s.live) x)) same (ap (λ o. offers o branch) may.recipe ∙ may.offered)) c.row_branches;
  row_choices = All-with_row (IsNotOptedOut t) row s.rows (λ enrolled. without-itself slug s.opted_out) (All-weaker (IsNotOptedOut s) (IsNotOptedOut t) (λ q h enrolled. is_in-without q.slug slug s.opted_out (h enrolled)) s.rows c.row_choices);
  row_participation = All-with_row (IsParticipating t) row s.rows (λ enrolled. ap (may_take_part s) may.recipe ∙ may.participating) c.row_participation;
  exclusive = exclusion.opt_in s slug branch r may free c.exclusive;
}
