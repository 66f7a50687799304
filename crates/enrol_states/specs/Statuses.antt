-- What a status says.
use Rattle.std.specs.Prelude.{◌≡◌, ◌≤◌, ℕ, Bool, true, false, List, Option, Some, None, ⊤}
use Rattle.plain_text.specs.Names.{bad_place}
use Rattle.enrol_states.specs.declared.status.Status.{Status}
use Rattle.enrol_states.specs.declared.status.Status.TheVariants as statuses

-- the last second of the year 9999, since 1970
abbrev pub last_moment : ℕ
last_moment = 253402300799

abbrev pub IsSlug : List ℕ → Type 0
IsSlug s = bad_place s ≡ None

abbrev pub is_enrolled : Status → Bool
is_enrolled (statuses.Enrolled reason branch) = true
is_enrolled s = false

abbrev pub is_enrolled_now : Option Status → Bool
is_enrolled_now None = false
is_enrolled_now (Some s) = is_enrolled s

abbrev pub was_enrolled : Status → Bool
was_enrolled (statuses.WasEnrolled branch ended) = true
was_enrolled s = false

-- the branch of a client that takes part
abbrev pub enrolled_branch : Status → Option (List ℕ)
enrolled_branch (statuses.Enrolled reason branch) = Some branch
enrolled_branch s = None

-- its branch is a slug, and its end a moment
abbrev pub IsStatus : Status → Type 0
IsStatus (statuses.Enrolled reason branch) = IsSlug branch
IsStatus (statuses.NotEnrolled reason) = ⊤
IsStatus (statuses.Disqualified reason branch) = IsSlug branch
IsStatus (statuses.WasEnrolled branch ended) = IsSlug branch × (ended ≤ last_moment)
IsStatus (statuses.Error cause) = ⊤
