-- The new rows: each slug's status is the one that it has by itself.
use Rattle.std.proofs.Common.{◌≡◌, ℕ, Bool, true, false, List, [], ◌∷◌, map, Option, None, Some, refl, sym, ap, ap₂, ◌∙◌}
use Rattle.std.specs.Prelude.{bytes_eq, ◌||◌, option_map, option_and_then, if◌then◌else◌}
use Rattle.std.specs.Option.{option_or}
use Rattle.std.specs.List.{AllByRecursion}
use Rattle.std.specs.List.Sorted.{IsStrictlySortedBy}
use Rattle.std.specs.Cmp.Lexicographic.{bytes_decides}
use Rattle.std.proofs.lemmas.Bool.{or_parts}
use Rattle.recipe_reader.specs.Payloads as payloads
use Rattle.recipe_reader.specs.Payloads.{AreInOrder, recipe_with}
use Rattle.recipe_reader.specs.declared.recipe.Recipe.{Recipe}
use Rattle.app_context.specs.declared.context.Context.{Context}
use Rattle.enrol_states.specs.Order.{Rise, AreAbove, is_in}
use Rattle.enrol_states.specs.State.{slugs_of, status_of}
use Rattle.enrol_states.specs.Transitions.{status_ended}
use Rattle.enrol_states.specs.declared.state.State.{State}
use Rattle.enrol_states.specs.declared.state.Row.{Row}
use Rattle.enrol_states.specs.declared.status.Status.{Status}
use Rattle.enrol_conflicts.specs.Settlement.{Settled}
use Rattle.enrol_conflicts.specs.declared.candidate.Candidate.{Candidate}
use Rattle.enrol_conflicts.proofs.Uniqueness.{settleable, settled_at_most_once}
use Rattle.enrol_evolver.specs.Wishes.{grants_of, row_of}
use Rattle.enrol_evolver.specs.Evolution.{status_after, status_with, status_left, new_status, live_rows, all_slugs, rows_after}
use Rattle.enrol_evolver.proofs.RowLists.{same_rows, rows-rise, status-rows, rise-fold, in-fold}
use Rattle.enrol_evolver.proofs.MergedRows.{merged, AreGone, status-ended, status-merged, rise-merged}

-- ---- the one settled list

pub settled_grants : (ws : List Candidate) (coenrolling : List (List ℕ)) → Settled ws coenrolling (grants_of ws coenrolling)
unfolding grants_of
settled_grants ws coenrolling = (settleable ws coenrolling).1

pub only_grants : (ws : List Candidate) (coenrolling : List (List ℕ)) (gs : List Bool) → Settled ws coenrolling gs → gs ≡ grants_of ws coenrolling
only_grants ws coenrolling gs settled = settled_at_most_once ws coenrolling gs (grants_of ws coenrolling) settled (settled_grants ws coenrolling)

-- ---- slugs that have a recipe or a row

no_recipe_at : (slug : List ℕ) (r : Recipe) (rs : List Recipe) (b : Bool) → (is_in (map (λ (p : Recipe). p.slug) rs) slug ≡ false → recipe_with slug rs ≡ None) → (b || is_in (map (λ (p : Recipe). p.slug) rs) slug) ≡ false → (if b then Some r else recipe_with slug rs) ≡ None
no_recipe_at slug r rs true rest e = absurd cc
no_recipe_at slug r rs false rest e = rest e

not_live : (slug : List ℕ) (rs : List Recipe) → is_in (map (λ (p : Recipe). p.slug) rs) slug ≡ false → recipe_with slug rs ≡ None
not_live slug [] e = refl
not_live slug (r ∷ rs) e = no_recipe_at slug r rs (bytes_eq r.slug slug) (not_live slug rs) e

no_row_at : (slug : List ℕ) (q : Row) (qs : List Row) (b : Bool) → (is_in (slugs_of qs) slug ≡ false → status_of slug qs ≡ None) → (b || is_in (slugs_of qs) slug) ≡ false → (if b then Some q.status else status_of slug qs) ≡ None
no_row_at slug q qs true rest e = absurd cc
no_row_at slug q qs false rest e = rest e

not_row : (slug : List ℕ) (qs : List Row) → is_in (slugs_of qs) slug ≡ false → status_of slug qs ≡ None
not_row slug [] e = refl
not_row slug (q ∷ qs) e = no_row_at slug q qs (bytes_eq q.slug slug) (not_row slug qs) e

none_after : (context : Context) (s : State) (now : ℕ) (slug : List ℕ) (b : Bool) → is_in (all_slugs s) slug ≡ b → (if b then status_after context s now slug else None) ≡ status_after context s now slug
none_after context s now slug true e = refl
none_after context s now slug false e =
    let parts = or_parts (is_in (map (λ (p : Recipe). p.slug) s.live) slug) (is_in (slugs_of s.rows) slug) (sym (in-fold (slugs_of s.rows) (map (λ (p : Recipe). p.slug) s.live) slug) ∙ e) in
    sym (ap (status_with context s now slug) (not_live slug s.live parts.0) ∙ ap (option_and_then (λ old. status_ended old now)) (not_row slug s.rows parts.1))

-- ---- the rows as they are defined

pub rows_after-rise : (context : Context) (s : State) (now : ℕ) → Rise (slugs_of s.rows) → Rise (slugs_of (rows_after context s now))
rows_after-rise context s now rise = rows-rise (status_after context s now) (all_slugs s) (rise-fold (slugs_of s.rows) (map (λ (p : Recipe). p.slug) s.live) rise)

pub status-after : (context : Context) (s : State) (now : ℕ) (slug : List ℕ) → Rise (slugs_of s.rows) → status_of slug (rows_after context s now) ≡ status_after context s now slug
status-after context s now slug rise =
    status-rows (status_after context s now) slug (all_slugs s) (rise-fold (slugs_of s.rows) (map (λ (p : Recipe). p.slug) s.live) rise) ∙ none_after context s now slug (is_in (all_slugs s) slug) refl

-- ---- the rows as they are made

live-status_at : (f : Recipe → Status) (r : Recipe) (rs : List Recipe) (slug : List ℕ) (b : Bool) → status_of slug (map (λ (q : Recipe). row_of q.slug (f q)) rs) ≡ option_map f (recipe_with slug rs)
    → (if b then Some (f r) else status_of slug (map (λ (q : Recipe). row_of q.slug (f q)) rs)) ≡ option_map f (if b then Some r else recipe_with slug rs)
live-status_at f r rs slug true rest = refl
live-status_at f r rs slug false rest = rest

live-status : (f : Recipe → Status) (slug : List ℕ) (rs : List Recipe) → status_of slug (map (λ (r : Recipe). row_of r.slug (f r)) rs) ≡ option_map f (recipe_with slug rs)
live-status f slug [] = refl
live-status f slug (r ∷ rs) = live-status_at f r rs slug (bytes_eq r.slug slug) (live-status f slug rs)

-- nothing stays of a row, where there is a live recipe
none_of : (r : Recipe) (now : ℕ) (old : Option Status) → option_and_then (λ st. status_left (Some r) st now) old ≡ None
none_of r now None = refl
none_of r now (Some st) = refl

none_where : (f : Recipe → Status) (now : ℕ) (o : Option Recipe) (old : Option Status) (st : Status) → option_map f o ≡ Some st → option_and_then (λ old. status_left o old now) old ≡ None
none_where f now None old st e = absurd cc
none_where f now (Some r) old st e = none_of r now old

in_parts : (context : Context) (s : State) (now : ℕ) (slug : List ℕ) (o : Option Recipe) → option_or (option_map (new_status context s now) o) (option_and_then (λ old. status_left o old now) (status_of slug s.rows)) ≡ status_with context s now slug o
in_parts context s now slug None = refl
in_parts context s now slug (Some r) = refl

status-made : (context : Context) (s : State) (now : ℕ) (slug : List ℕ) → Rise (slugs_of s.rows) → status_of slug (merged context s now (live_rows context s now) s.rows) ≡ status_after context s now slug
status-made context s now slug rise =
    let live = live-status (new_status context s now) slug s.live in
    let ended = status-ended context s now slug s.rows rise in
    status-merged context s now slug (live_rows context s now) s.rows (λ st found. ended ∙ none_where (new_status context s now) now (recipe_with slug s.live) (status_of slug s.rows) st (sym live ∙ found))
    ∙ ap₂ option_or live ended ∙ in_parts context s now slug (recipe_with slug s.live)

abbrev IsThere : List ℕ → List Recipe → Type 0
IsThere slug rs = (q : Recipe) × (recipe_with slug rs ≡ Some q)

there_at : (q : Recipe) (qs : List Recipe) (slug : List ℕ) (b : Bool) → IsThere slug qs → (p : Recipe) × ((if b then Some q else recipe_with slug qs) ≡ Some p)
there_at q qs slug true rest = (q, refl)
there_at q qs slug false rest = rest

all_later : (q : Recipe) (qs rs : List Recipe) → AllByRecursion (λ (r : Recipe). IsThere r.slug qs) rs → AllByRecursion (λ (r : Recipe). IsThere r.slug (q ∷ qs)) rs
all_later q qs [] all = tt
all_later q qs (r ∷ rs) all = (there_at q qs r.slug (bytes_eq q.slug r.slug) all.0, all_later q qs rs all.1)

all_there : (rs : List Recipe) → AllByRecursion (λ (r : Recipe). IsThere r.slug rs) rs
all_there [] = tt
all_there (q ∷ qs) = ((q, ap (λ b. if b then Some q else recipe_with q.slug qs) ((bytes_decides q.slug q.slug).1 refl)), all_later q qs qs (all_there qs))

gone_all : (context : Context) (s : State) (now : ℕ) (rs : List Recipe) → Rise (slugs_of s.rows) → AllByRecursion (λ (r : Recipe). IsThere r.slug s.live) rs → AreGone context s now (map (λ (r : Recipe). row_of r.slug (new_status context s now r)) rs) s.rows
gone_all context s now [] rise all = tt
gone_all context s now (r ∷ rs) rise all =
    (status-ended context s now r.slug s.rows rise ∙ ap (λ o. option_and_then (λ old. status_left o old now) (status_of r.slug s.rows)) all.0.1 ∙ none_of all.0.0 now (status_of r.slug s.rows), gone_all context s now rs rise all.1)

live_above : (context : Context) (s : State) (now : ℕ) (a : List ℕ) (rs : List Recipe) → payloads.AreAbove a rs → AreAbove a (slugs_of (map (λ (r : Recipe). row_of r.slug (new_status context s now r)) rs))
live_above context s now a [] above = tt
live_above context s now a (r ∷ rs) above = (above.0, live_above context s now a rs above.1)

live_rise : (context : Context) (s : State) (now : ℕ) (rs : List Recipe) → AreInOrder rs → Rise (slugs_of (map (λ (r : Recipe). row_of r.slug (new_status context s now r)) rs))
unfolding IsStrictlySortedBy
live_rise context s now [] order = tt
live_rise context s now (r ∷ rs) order = (live_above context s now r.slug rs order.0, live_rise context s now rs order.1)

-- the merged rows are the new rows
pub merged-is : (context : Context) (s : State) (now : ℕ) → AreInOrder s.live → Rise (slugs_of s.rows) → merged context s now (live_rows context s now) s.rows ≡ rows_after context s now
merged-is context s now order rise =
    same_rows _ _ (rise-merged context s now (live_rows context s now) s.rows (live_rise context s now s.live order) rise (gone_all context s now s.live rise (all_there s.live))) (rows_after-rise context s now rise)
    (λ slug. status-made context s now slug rise ∙ sym (status-after context s now slug rise))
