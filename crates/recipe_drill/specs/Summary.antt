-- The summary of a state: how many rows have each status.
use Rattle.std.specs.Prelude.{ℕ, Bool, true, false, List, ◌++◌, codes, decimal, count_by}
use Rattle.enrol_states.specs.Statuses.{is_enrolled, was_enrolled}
use Rattle.enrol_states.specs.declared.state.State.{State}
use Rattle.enrol_states.specs.declared.state.Row.{Row}
use Rattle.enrol_states.specs.declared.status.Status.{Status}
use Rattle.enrol_states.specs.declared.status.Status.TheVariants.{NotEnrolled, Disqualified, Error}

abbrev pub is_not_enrolled : Status → Bool
is_not_enrolled (NotEnrolled reason) = true
is_not_enrolled s = false

abbrev pub is_disqualified : Status → Bool
is_disqualified (Disqualified reason branch) = true
is_disqualified s = false

abbrev pub is_error : Status → Bool
is_error (Error cause) = true
is_error s = false

-- how many rows have such a status
abbrev pub count_of : (Status → Bool) → List Row → ℕ
count_of is rows = count_by (λ (row : Row). is row.status) rows

unfoldable pub count_line : List ℕ → ℕ → List ℕ
count_line name count = name ++ codes " " ++ decimal count ++ codes "\n"

unfoldable pub summary : ℕ → ℕ → State → List ℕ
summary start count state =
    codes "drill " ++ decimal start ++ codes " " ++ decimal count ++ codes "\n"
    ++ count_line (codes "Enrolled") (count_of is_enrolled state.rows)
    ++ count_line (codes "NotEnrolled") (count_of is_not_enrolled state.rows)
    ++ count_line (codes "Disqualified") (count_of is_disqualified state.rows)
    ++ count_line (codes "WasEnrolled") (count_of was_enrolled state.rows)
    ++ count_line (codes "Error") (count_of is_error state.rows)
