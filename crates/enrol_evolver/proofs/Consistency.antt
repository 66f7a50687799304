-- A state stays consistent over an apply.
use Rattle.std.proofs.Common.{◌≡◌, ℕ, ◌+◌, ◌≤◌, Bool, true, false, List, [], ◌∷◌, Option, None, Some, refl, sym, ap, ◌∙◌, subst}
use Rattle.std.specs.Prelude.{All, IsTrue, IsUtf8, ◌||◌, not, nat_le, bytes_eq, unwrap_or, option_and_then, if◌then◌else◌}
use Rattle.std.specs.List.{AllByRecursion}
use Rattle.std.proofs.lemmas.List.Elements.{All-from_recursion}
use Rattle.std.proofs.lemmas.Bool.{or_right, or_parts}
use Rattle.plain_text.specs.Names.{is_name}
use Rattle.recipe_reader.specs.Payloads.{AreValid, has_slug, recipe_with}
use Rattle.recipe_reader.specs.Kinds.{kind_of}
use Rattle.recipe_reader.specs.Records.{IsValid}
use Rattle.recipe_reader.specs.declared.recipe.Recipe.{Recipe}
use Rattle.app_context.specs.declared.context.Context.{Context}
use Rattle.enrol_states.specs.Order.{Rise, is_in}
use Rattle.enrol_states.specs.State.{slugs_of, status_of}
use Rattle.enrol_states.specs.Participation.{takes_part, may_take_part}
use Rattle.enrol_states.specs.Recipes.{offers}
use Rattle.enrol_states.specs.Statuses.{last_moment, IsSlug, IsStatus, is_enrolled, was_enrolled, enrolled_branch}
use Rattle.enrol_states.specs.Consistent.{AreKept, ArePending, HasRecipe, HasBranch, IsNotOptedOut, IsParticipating, IsConsistent}
use Rattle.enrol_states.specs.Transitions.{year, status_ended}
use Rattle.enrol_states.specs.declared.state.State.{State}
use Rattle.enrol_states.specs.declared.state.Row.{Row}
use Rattle.enrol_states.specs.declared.status.Status.{Status}
use Rattle.enrol_states.specs.declared.status.Status.TheVariants.{Enrolled, NotEnrolled, Disqualified, WasEnrolled, Error}
use Rattle.enrol_states.proofs.Exclusion.{found_slug}
use Rattle.enrol_states.proofs.Enrolments.{has_recipe}
use Rattle.enrol_evolver.specs.Verdicts.{is_out}
use Rattle.enrol_evolver.specs.Wishes.{outcome_of, row_of}
use Rattle.enrol_evolver.specs.Evolution.{version_of, live_after, refreshed, is_slug_granted, new_status, status_with, rows_after, with_new_rows, evolution}
use Rattle.enrol_evolver.proofs.Validity.{slug_fits}
use Rattle.enrol_evolver.proofs.RowLists.{rows_where, row_where}
use Rattle.enrol_evolver.proofs.Evolved.{rows_after-rise, status-after}
use Rattle.enrol_evolver.proofs.Fitness.{IsOld, IsFitting, outcome-fits, status-fits}
use Rattle.enrol_evolver.proofs.Granting.{old-fits, found_valid, evolved-exclusive}

-- what holds of each new row
pub record IsRowOf (s : State) (row : Row) : Type 0 where
  pub slug : IsSlug row.slug
  pub status : IsStatus row.status
  pub recipe : HasRecipe s row
  pub branch : HasBranch s row
  pub choice : IsNotOptedOut s row
  pub participation : IsParticipating s row

-- ---- a slug with a live recipe

taking_part : (a b : Bool) → (a || not b) ≡ false → b ≡ true
taking_part true b e = absurd cc
taking_part false true e = refl
taking_part false false e = absurd cc

live_row : (context : Context) (s : State) (now : ℕ) (slug : List ℕ) (r : Recipe) (st : Status) → IsValid r → IsOld (status_of r.slug s.rows) → recipe_with slug s.live ≡ Some r → new_status context s now r ≡ st → IsRowOf (with_new_rows context s now) (row_of slug st)
live_row context s now slug r st valid old found e =
    let same : r.slug ≡ slug = found_slug slug s.live r found in
    let fits : IsFitting r (is_out s r) st =
    subst (IsFitting r (is_out s r)) e (status-fits r (is_out s r) (outcome_of context s now r) (is_slug_granted context s now r.slug) (outcome-fits context s now r (status_of r.slug s.rows) valid old))
    in
    record {
      slug = subst IsSlug same (slug_fits r valid);
      status = fits.status;
      recipe = or_right (was_enrolled st) (has_slug slug s.live) (has_recipe slug s.live r found);
      branch = λ b there. ap (λ o. offers o b) found ∙ fits.branch b there;
      choice = λ enrolled. subst (λ t. is_in s.opted_out t ≡ false) same (or_parts (is_in s.opted_out r.slug) (not (takes_part s (kind_of r))) (fits.choice enrolled)).0;
      participation = λ enrolled. ap (may_take_part s) found ∙ taking_part (is_in s.opted_out r.slug) (takes_part s (kind_of r)) (fits.choice enrolled);
    }

-- ---- a slug without one

some_is : {x y : Status} → Some x ≡ Some y → x ≡ y
some_is e = cc

-- what was an enrolment and has ended
abbrev pub HasEnded : Status → Type 0
HasEnded st = IsStatus st × (was_enrolled st ≡ true) × (enrolled_branch st ≡ None) × (is_enrolled st ≡ false)

ended_at : (branch : List ℕ) (ended : ℕ) (st : Status) (b : Bool) → IsSlug branch → ended ≤ last_moment → (if b then None else Some (WasEnrolled branch ended)) ≡ Some st → HasEnded st
ended_at branch ended st true slug most e = absurd cc
ended_at branch ended st false slug most e = subst HasEnded (some_is e) ((slug, most), refl, refl, refl)

ended-fits : (old : Status) (now : ℕ) (st : Status) → IsStatus old → now ≤ last_moment → status_ended old now ≡ Some st → HasEnded st
ended-fits (Enrolled reason branch) now st old most e = subst HasEnded (some_is e) ((old, most), refl, refl, refl)
ended-fits (Disqualified reason branch) now st old most e = subst HasEnded (some_is e) ((old, most), refl, refl, refl)
ended-fits (NotEnrolled reason) now st old most e = absurd cc
ended-fits (Error cause) now st old most e = absurd cc
ended-fits (WasEnrolled branch ended) now st old most e = ended_at branch ended st (nat_le (ended + year) now) old.0 old.1 e

gone_row : (context : Context) (s : State) (now : ℕ) (slug : List ℕ) (o : Option Status) (st : Status) → now ≤ last_moment → All (λ (row : Row). IsSlug row.slug) s.rows → All (λ (row : Row). IsStatus row.status) s.rows → status_of slug s.rows ≡ o
    → option_and_then (λ old. status_ended old now) o ≡ Some st → IsRowOf (with_new_rows context s now) (row_of slug st)
gone_row context s now slug None st most slugs statuses found e = absurd cc
gone_row context s now slug (Some old) st most slugs statuses found e =
    let ended = ended-fits old now st (row_where (λ (row : Row). IsStatus row.status) s.rows slug old statuses found) most e in
    record {
      slug = row_where (λ (row : Row). IsSlug row.slug) s.rows slug old slugs found;
      status = ended.0;
      recipe = ap (λ b. b || has_slug slug s.live) ended.1;
      branch = λ b there. absurd (let none = ended.2 in cc);
      choice = λ enrolled. absurd (let none = ended.3 in cc);
      participation = λ enrolled. absurd (let none = ended.3 in cc);
    }

-- ---- all rows

row_by_recipe : (context : Context) (s : State) (now : ℕ) (slug : List ℕ) (st : Status) (o : Option Recipe) → now ≤ last_moment → AreValid s.live → All (λ (row : Row). IsSlug row.slug) s.rows → All (λ (row : Row). IsStatus row.status) s.rows → ((t : List ℕ) → IsOld (status_of t s.rows))
    → recipe_with slug s.live ≡ o → status_with context s now slug o ≡ Some st → IsRowOf (with_new_rows context s now) (row_of slug st)
row_by_recipe context s now slug st None most valid slugs statuses old found e = gone_row context s now slug (status_of slug s.rows) st most slugs statuses refl e
row_by_recipe context s now slug st (Some r) most valid slugs statuses old found e = live_row context s now slug r st (found_valid slug s.live r valid found) (old r.slug) found (some_is e)

rows_fit : (context : Context) (s : State) (now : ℕ) → now ≤ last_moment → AreValid s.live → Rise (slugs_of s.rows) → All (λ (row : Row). IsSlug row.slug) s.rows → All (λ (row : Row). IsStatus row.status) s.rows → AllByRecursion (IsRowOf (with_new_rows context s now)) (rows_after context s now)
rows_fit context s now most valid rise slugs statuses =
    rows_where (IsRowOf (with_new_rows context s now)) (rows_after context s now) (rows_after-rise context s now rise)
    (λ slug st found. row_by_recipe context s now slug st (recipe_with slug s.live) most valid slugs statuses (olds s.rows statuses) refl (sym (status-after context s now slug rise) ∙ found))
  where
    olds : (rows : List Row) → All (λ (row : Row). IsStatus row.status) rows → (t : List ℕ) → IsOld (status_of t rows)
    olds rows all t = old-fits rows t (status_of t rows) (λ st found. row_where (λ (row : Row). IsStatus row.status) rows t st all found) refl

weaker : {P Q : Row → Type 0} → ((row : Row) → P row → Q row) → (rows : List Row) → AllByRecursion P rows → AllByRecursion Q rows
weaker h [] all = tt
weaker h (row ∷ rows) all = (h row all.0, weaker h rows all.1)

kept_after : (o : Option (List Recipe)) (live : List Recipe) → ArePending o → AreKept live → AreKept (unwrap_or o live)
kept_after None live pending kept = kept
kept_after (Some rs) live pending kept = pending

updated_by : (updated now : ℕ) (b : Bool) → updated ≤ last_moment → now ≤ last_moment → (if b then updated else now) ≤ last_moment
updated_by updated now true before most = before
updated_by updated now false before most = most

pub evolved : (s : State) (context : Context) (coenrolling : List (List ℕ)) (now : ℕ) → IsConsistent s → All (λ name. IsTrue (is_name name)) coenrolling → Rise coenrolling → now ≤ last_moment → IsUtf8 (version_of context) → IsConsistent (evolution s context coenrolling now)
unfolding evolution
evolved s context coenrolling now c names order most utf8 = record {
  id = c.id;
  installed = c.installed;
  updated = updated_by s.updated now (bytes_eq s.version (version_of context)) c.updated most;
  version = utf8;
  opted_out_slugs = c.opted_out_slugs;
  opted_out_order = c.opted_out_order;
  opted_out_limit = c.opted_out_limit;
  coenrolling_names = names;
  coenrolling_order = order;
  live = kept;
  pending = tt;
  row_slugs = All-from_recursion (λ row. IsSlug row.slug) (rows_after context u now) (weaker (λ row h. h.slug) (rows_after context u now) rows);
  row_order = rows_after-rise context u now c.row_order;
  row_statuses = All-from_recursion (λ row. IsStatus row.status) (rows_after context u now) (weaker (λ row h. h.status) (rows_after context u now) rows);
  row_recipes = All-from_recursion (HasRecipe t) (rows_after context u now) (weaker (λ row h. h.recipe) (rows_after context u now) rows);
  row_branches = All-from_recursion (HasBranch t) (rows_after context u now) (weaker (λ row h. h.branch) (rows_after context u now) rows);
  row_choices = All-from_recursion (IsNotOptedOut t) (rows_after context u now) (weaker (λ row h. h.choice) (rows_after context u now) rows);
  row_participation = All-from_recursion (IsParticipating t) (rows_after context u now) (weaker (λ row h. h.participation) (rows_after context u now) rows);
  exclusive = evolved-exclusive context u now kept.in_order kept.valid c.row_order (λ slug. old-fits s.rows slug (status_of slug s.rows) (λ st found. row_where (λ (row : Row). IsStatus row.status) s.rows slug st c.row_statuses found) refl);
}
  where
    u : State
    u = refreshed s context coenrolling now

    t : State
    t = with_new_rows context u now

    kept : AreKept (live_after s)
    kept = kept_after s.pending s.live c.pending c.live

    rows : AllByRecursion (IsRowOf t) (rows_after context u now)
    rows = rows_fit context u now most kept.valid c.row_order c.row_slugs c.row_statuses
