-- The state of a client, and its rows as a map from slugs to statuses.
use Rattle.std.specs.Prelude.{ℕ, true, List, [], ◌∷◌, map, Option, Some, None, bytes_eq, if◌then◌else◌}
use Rattle.enrol_states.specs.Statuses as statuses
use Rattle.enrol_states.specs.declared.state.State.{State}
use Rattle.enrol_states.specs.declared.state.Row.{Row}
use Rattle.enrol_states.specs.declared.status.Status.{Status}

-- the last second of the year 9999, since 1970
abbrev pub last_moment : ℕ
last_moment = statuses.last_moment

-- the state of a new store
abbrev pub fresh : List ℕ → ℕ → State
fresh id now = record { id = id; installed = now; updated = now; version = []; experiments = true; rollouts = true; opted_out = []; coenrolling = []; live = []; pending = None; rows = [] }

abbrev pub slugs_of : List Row → List (List ℕ)
slugs_of rows = map (λ row. row.slug) rows

-- what the client is to the slug's recipe, where it has a row
abbrev pub status_of : List ℕ → List Row → Option Status
status_of slug [] = None
status_of slug (r ∷ rs) = if bytes_eq r.slug slug then Some r.status else status_of slug rs
