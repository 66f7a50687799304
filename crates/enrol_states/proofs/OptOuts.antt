-- A state stays consistent where a slug is opted out.
use Rattle.std.proofs.Common.{Ordering, ◌≡◌, ℕ, ◌+◌, ◌<◌, ◌≤◌, Bool, true, false, List, [], ◌∷◌, length, Less, Equal, Greater, refl, sym, ap, ◌∙◌, subst, arith}
use Rattle.std.specs.Prelude.{◌||◌, ◌&&◌, not, nat_le, bytes_eq}
use Rattle.std.specs.BTreeSet.{insert_key}
use Rattle.std.specs.Ordering.{match_ordering}
use Rattle.std.specs.List.Sorted.{IsStrictlySortedBy}
use Rattle.std.proofs.lemmas.Bool.{le-leb, lt-leb, leb-false}
use Rattle.std.proofs.lemmas.Map.Views.{All-insert_key}
use Rattle.sequences.proofs.Insertions.{above_insert}
use Rattle.recipe_reader.specs.Payloads.{slug_cmp, has_slug}
use Rattle.enrol_states.specs.Order.{Rise, is_in}
use Rattle.enrol_states.specs.Statuses.{IsSlug, IsStatus}
use Rattle.enrol_states.specs.Consistent.{HasRecipe, HasBranch, IsNotOptedOut, IsParticipating, IsConsistent}
use Rattle.enrol_states.specs.Commands.{opted_out_of, enrolment_ended, after_opt_out}
use Rattle.enrol_states.specs.Choices.{has_no_room}
use Rattle.enrol_states.specs.declared.state.State.{State}
use Rattle.enrol_states.proofs.Ordered.{above_trans, is_in-above, lesser_texts, turned_down, bytes_turned}
use Rattle.enrol_states.proofs.OptingOut.{was_enrolled-opted_out, IsStatus-opted_out, All-image, slugs-image, either}
use Rattle.enrol_states.proofs.Participations.{not_enrolled, no_branch}
use Rattle.enrol_states.proofs.Exclusion as exclusion

-- ---- one more text

rise_at : (s t : List ℕ) (ts : List (List ℕ)) (o : Ordering) → slug_cmp s t ≡ o → Rise (t ∷ ts) → Rise (insert_key slug_cmp ts s) → Rise (match_ordering o (s ∷ t ∷ ts) (t ∷ ts) (t ∷ insert_key slug_cmp ts s))
unfolding IsStrictlySortedBy
rise_at s t ts Less e rise rest = ((e, above_trans s t ts e rise.0), rise)
rise_at s t ts Equal e rise rest = rise
rise_at s t ts Greater e rise rest = (above_insert t s ts (turned_down s t e) rise.0, rest)

pub rise-insert : (s : List ℕ) (ts : List (List ℕ)) → Rise ts → Rise (insert_key slug_cmp ts s)
unfolding IsStrictlySortedBy
rise-insert s [] rise = (tt, tt)
rise-insert s (t ∷ ts) rise = rise_at s t ts (slug_cmp s t) refl rise (rise-insert s ts rise.1)

again_at : (s t : List ℕ) (ts : List (List ℕ)) (o : Ordering) → slug_cmp s t ≡ o → Rise (t ∷ ts) → is_in (t ∷ ts) s ≡ true → (is_in ts s ≡ true → insert_key slug_cmp ts s ≡ ts)
    → match_ordering o (s ∷ t ∷ ts) (t ∷ ts) (t ∷ insert_key slug_cmp ts s) ≡ t ∷ ts
unfolding IsStrictlySortedBy
again_at s t ts Less e rise there rest = let nowhere = is_in-above s (t ∷ ts) (e, above_trans s t ts e rise.0) in absurd cc
again_at s t ts Equal e rise there rest = refl
again_at s t ts Greater e rise there rest = ap (λ us. t ∷ us) (rest (sym (ap (λ b. b || is_in ts s) (lesser_texts t s (turned_down s t e))) ∙ there))

-- a text that is there already
pub insert-again : (s : List ℕ) (ts : List (List ℕ)) → Rise ts → is_in ts s ≡ true → insert_key slug_cmp ts s ≡ ts
unfolding IsStrictlySortedBy
insert-again s [] rise there = absurd cc
insert-again s (t ∷ ts) rise there = again_at s t ts (slug_cmp s t) refl rise there (insert-again s ts rise.1)

pub is_in-insert : (s u : List ℕ) (ts : List (List ℕ)) → bytes_eq s u ≡ false → is_in (insert_key slug_cmp ts s) u ≡ is_in ts u
is_in-insert s u [] other = ap (λ b. b || false) other
is_in-insert s u (t ∷ ts) other =
    elim (slug_cmp s t) as (λ o. is_in (match_ordering o (s ∷ t ∷ ts) (t ∷ ts) (t ∷ insert_key slug_cmp ts s)) u ≡ is_in (t ∷ ts) u) [
      | Less ↦ ap (λ b. b || is_in (t ∷ ts) u) other
      | Equal ↦ refl
      | Greater ↦ ap (λ b. bytes_eq t u || b) (is_in-insert s u ts other)
    ]

length-insert : (s : List ℕ) (ts : List (List ℕ)) → length (insert_key slug_cmp ts s) ≤ length ts + 1
length-insert s [] = omega arith
length-insert s (t ∷ ts) =
    elim (slug_cmp s t) as (λ o. length (match_ordering o (s ∷ t ∷ ts) (t ∷ ts) (t ∷ insert_key slug_cmp ts s)) ≤ length (t ∷ ts) + 1) [
      | Less ↦ omega arith
      | Equal ↦ omega arith
      | Greater ↦ let rest = length-insert s ts in omega (arith, rest)
    ]

-- ---- room

room : (there : Bool) (s : List ℕ) (ts : List (List ℕ)) → is_in ts s ≡ there → has_no_room ts s ≡ false → Rise ts → length ts ≤ 4096 → length (insert_key slug_cmp ts s) ≤ 4096
room true s ts e free rise most = rw (insert-again s ts rise e) most
room false s ts e free rise most =
    let more : nat_le 4096 (length ts) ≡ false = sym (ap (λ b. not b && nat_le 4096 (length ts)) e) ∙ free in
    let fewer : length ts < 4096 = leb-false 4096 (length ts) more in
    let one_more = length-insert s ts in
    omega (arith, fewer, one_more)

pub free_there : (s : List ℕ) (ts : List (List ℕ)) → is_in ts s ≡ true → has_no_room ts s ≡ false
free_there s ts there = ap (λ b. not b && nat_le 4096 (length ts)) there

and_false : (b : Bool) → (b && false) ≡ false
and_false true = refl
and_false false = refl

pub free_at : (s : List ℕ) (ts : List (List ℕ)) → length ts < 4096 → has_no_room ts s ≡ false
free_at s ts fewer = ap (λ b. not (is_in ts s) && b) (lt-leb 4096 (length ts) fewer) ∙ and_false (not (is_in ts s))

pub full : (s : List ℕ) (ts : List (List ℕ)) → is_in ts s ≡ false → 4096 ≤ length ts → has_no_room ts s ≡ true
full s ts other most = ap (λ b. not b && nat_le 4096 (length ts)) other ∙ le-leb 4096 (length ts) most

-- ---- the state

-- the enrolment of a slug ends
pub ended_is_consistent : (s : State) (slug : List ℕ) → IsConsistent s → IsConsistent (enrolment_ended slug s)
ended_is_consistent s slug c = let t = enrolment_ended slug s in record {
  id = c.id;
  installed = c.installed;
  updated = c.updated;
  version = c.version;
  opted_out_slugs = c.opted_out_slugs;
  opted_out_order = c.opted_out_order;
  opted_out_limit = c.opted_out_limit;
  coenrolling_names = c.coenrolling_names;
  coenrolling_order = c.coenrolling_order;
  live = c.live;
  pending = c.pending;
  row_slugs = All-image (λ row. IsSlug row.slug) (λ row. IsSlug row.slug) (opted_out_of slug) s.rows (λ row h. either (λ r. IsSlug r.slug) slug row h (λ other. h)) c.row_slugs;
  row_order = subst Rise (sym (slugs-image (opted_out_of slug) s.rows (λ row. either (λ r. r.slug ≡ row.slug) slug row refl (λ other. refl)))) c.row_order;
  row_statuses = All-image (λ row. IsStatus row.status) (λ row. IsStatus row.status) (opted_out_of slug) s.rows (λ row h. either (λ r. IsStatus r.status) slug row (IsStatus-opted_out row.status h) (λ other. h)) c.row_statuses;
  row_recipes = All-image (HasRecipe s) (HasRecipe t) (opted_out_of slug) s.rows (λ row h. either (HasRecipe t) slug row (ap (λ b. b || has_slug row.slug s.live) (was_enrolled-opted_out row.status) ∙ h) (λ other. h)) c.row_recipes;
  row_branches = All-image (HasBranch s) (HasBranch t) (opted_out_of slug) s.rows (λ row h. either (HasBranch t) slug row (λ branch there. no_branch row branch there) (λ other. h)) c.row_branches;
  row_choices = All-image (IsNotOptedOut s) (IsNotOptedOut t) (opted_out_of slug) s.rows (λ row h. either (IsNotOptedOut t) slug row (λ enrolled. not_enrolled row enrolled) (λ other. h)) c.row_choices;
  row_participation = All-image (IsParticipating s) (IsParticipating t) (opted_out_of slug) s.rows (λ row h. either (IsParticipating t) slug row (λ enrolled. not_enrolled row enrolled) (λ other. h)) c.row_participation;
  exclusive = exclusion.opt_out s slug c.exclusive;
}

-- and the slug is opted out
pub consistent : (s : State) (slug : List ℕ) → IsSlug slug → has_no_room s.opted_out slug ≡ false → IsConsistent s → IsConsistent (after_opt_out s slug)
consistent s slug is_slug free c = let t = after_opt_out s slug in let ended = ended_is_consistent s slug c in record {
  id = c.id;
  installed = c.installed;
  updated = c.updated;
  version = c.version;
  opted_out_slugs = All-insert_key slug_cmp slug IsSlug s.opted_out c.opted_out_slugs is_slug;
  opted_out_order = rise-insert slug s.opted_out c.opted_out_order;
  opted_out_limit = room (is_in s.opted_out slug) slug s.opted_out refl free c.opted_out_order c.opted_out_limit;
  coenrolling_names = c.coenrolling_names;
  coenrolling_order = c.coenrolling_order;
  live = c.live;
  pending = c.pending;
  row_slugs = ended.row_slugs;
  row_order = ended.row_order;
  row_statuses = ended.row_statuses;
  row_recipes = ended.row_recipes;
  row_branches = ended.row_branches;
  row_choices = All-image (IsNotOptedOut s) (IsNotOptedOut t) (opted_out_of slug) s.rows
      (λ row h. either (IsNotOptedOut t) slug row (λ enrolled. not_enrolled row enrolled) (λ other enrolled. is_in-insert slug row.slug s.opted_out (bytes_turned slug row.slug ∙ other) ∙ h enrolled)) c.row_choices;
  row_participation = ended.row_participation;
  exclusive = ended.exclusive;
}
