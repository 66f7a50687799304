-- The experiments that a client is in, and those that it is or was in, each with its branch.
use Rattle.std.specs.Prelude.{ℕ, List, filter, Option, Some, None, option_map}
use Rattle.std.specs.List.{filter_map}
use Rattle.json_tree.specs.Json.{Json, text}
use Rattle.enrol_states.specs.Statuses.{is_enrolled}
use Rattle.enrol_states.specs.State.{slugs_of}
use Rattle.enrol_states.specs.declared.state.Row.{Row}
use Rattle.enrol_states.specs.declared.status.Status.{Status}
use Rattle.enrol_states.specs.declared.status.Status.TheVariants as statuses

-- the slugs of what the client is enrolled in, in order
abbrev pub active_slugs : List Row → List (List ℕ)
active_slugs rows = slugs_of (filter (λ row. is_enrolled row.status) rows)

-- the branch of a client that takes part or took part
abbrev pub branch_of : Status → Option (List ℕ)
branch_of (statuses.Enrolled reason branch) = Some branch
branch_of (statuses.Disqualified reason branch) = Some branch
branch_of (statuses.WasEnrolled branch ended) = Some branch
branch_of s = None

abbrev pub enrolment_of : Row → Option (List ℕ × List ℕ)
enrolment_of row = option_map (λ branch. (row.slug, branch)) (branch_of row.status)

-- the slugs of what the client takes part in or took part in, with their branches, in order
abbrev pub enrolments_of : List Row → List (List ℕ × List ℕ)
enrolments_of rows = filter_map enrolment_of rows

-- the slug as a value, and as a name with its branch
abbrev pub slug_json : List ℕ × List ℕ → Json
slug_json e = text e.0

abbrev pub branch_json : List ℕ × List ℕ → List ℕ × Json
branch_json e = (e.0, text e.1)
