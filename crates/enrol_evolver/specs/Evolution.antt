-- What an apply makes of a state: each slug's new status by itself.
use Rattle.std.specs.Prelude.{ℕ, Bool, List, [], fold, map, filter_map, Option, Some, None, unwrap_or, option_map, option_and_then, bytes_eq, if◌then◌else◌}
use Rattle.std.specs.BTreeSet.{insert_key}
use Rattle.std.specs.Ordering.{is_lt}
use Rattle.recipe_reader.specs.Payloads.{slug_cmp, recipe_with}
use Rattle.recipe_reader.specs.declared.recipe.Recipe.{Recipe}
use Rattle.app_context.specs.Contexts.{text_of}
use Rattle.app_context.specs.declared.context.Context.{Context}
use Rattle.app_context.specs.declared.key.ContextKey.TheVariants.{AppVersion}
use Rattle.enrol_states.specs.State.{slugs_of, status_of}
use Rattle.enrol_states.specs.Transitions.{status_ended}
use Rattle.enrol_states.specs.declared.state.State.{State}
use Rattle.enrol_states.specs.declared.state.Row.{Row}
use Rattle.enrol_states.specs.declared.status.Status.{Status}
use Rattle.enrol_evolver.specs.Wishes.{outcome_of, wishes_of, grants_of, is_granted, status_by, row_of}

-- the application's version; empty where the context has none
abbrev pub version_of : Context → List ℕ
version_of context = unwrap_or (text_of AppVersion context) []

-- what was fetched is live, and else what was
abbrev pub live_after : State → List Recipe
live_after s = unwrap_or s.pending s.live

-- when the version last changed, where it is now this one
abbrev pub updated_after : State → List ℕ → ℕ → ℕ
updated_after s version now = if bytes_eq s.version version then s.updated else now

-- the state with the recipes, the features that may be shared and the version of this apply, and with its old rows
abbrev pub refreshed : State → Context → List (List ℕ) → ℕ → State
refreshed s context coenrolling now = record s { live = live_after s; pending = None; coenrolling = coenrolling; version = version_of context; updated = updated_after s (version_of context) now }

-- ---- the new rows of a refreshed state

-- whether the wish to be enrolled in the slug's recipe is granted
abbrev pub is_slug_granted : Context → State → ℕ → List ℕ → Bool
is_slug_granted context s now slug = is_granted (wishes_of context s now) (grants_of (wishes_of context s now) s.coenrolling) slug

-- the new status of a live recipe: by what follows for it, and by the grant of its wish
abbrev pub new_status : Context → State → ℕ → Recipe → Status
new_status context s now r = status_by (outcome_of context s now r) (is_slug_granted context s now r.slug)

abbrev pub status_with : Context → State → ℕ → List ℕ → Option Recipe → Option Status
status_with context s now slug None = option_and_then (λ old. status_ended old now) (status_of slug s.rows)
status_with context s now slug (Some r) = Some (new_status context s now r)

-- the slug's new status: by its live recipe, or else what stays of the old status
abbrev pub status_after : Context → State → ℕ → List ℕ → Option Status
status_after context s now slug = status_with context s now slug (recipe_with slug s.live)

-- the slugs of the rows and of the live recipes, in order
abbrev pub all_slugs : State → List (List ℕ)
all_slugs s = fold (insert_key slug_cmp) (slugs_of s.rows) (map (λ r. r.slug) s.live)

abbrev pub rows_after : Context → State → ℕ → List Row
rows_after context s now = filter_map (λ slug. option_map (row_of slug) (status_after context s now slug)) (all_slugs s)

abbrev pub with_new_rows : Context → State → ℕ → State
with_new_rows context s now = record s { rows = rows_after context s now }

-- the state after an apply
unfoldable pub evolution : State → Context → List (List ℕ) → ℕ → State
evolution s context coenrolling now = with_new_rows context (refreshed s context coenrolling now) now

-- ---- the new rows in two parts

-- the rows of the live recipes
abbrev pub live_rows : Context → State → ℕ → List Row
live_rows context s now = map (λ r. row_of r.slug (new_status context s now r)) s.live

-- what stays of a status, unless there is a live recipe
abbrev pub status_left : Option Recipe → Status → ℕ → Option Status
status_left None old now = status_ended old now
status_left (Some r) old now = None

-- what stays of an old row without a live recipe
abbrev pub ended_row : Context → State → ℕ → Row → Option Row
ended_row context s now row = option_map (row_of row.slug) (status_left (recipe_with row.slug s.live) row.status now)

abbrev pub is_below : List ℕ → Row → Bool
is_below slug row = is_lt (slug_cmp row.slug slug)
