-- What the values of a state's rows say.
use Rattle.std.specs.Prelude.{ℕ, ◌==◌, ◌||◌, nat_le, Bool, true, false, List, [], ◌∷◌, length, take, drop, Option, Some, None, Result, Ok, Err, bytes_eq, if◌then◌else◌}
use Rattle.std.specs.Int.{w64, from_be_bytes}
use Rattle.std.specs.Str.{is_utf8}
use Rattle.uuid.specs.Text.{parsed}
use Rattle.json_tree.specs.Json.{depth}
use Rattle.json_tree.specs.Bytes.{tree_of, max_depth}
use Rattle.recipe_reader.specs.Outcome.{only_if}
use Rattle.recipe_reader.specs.Values.{is_slug}
use Rattle.recipe_reader.specs.Records.{recipe_of}
use Rattle.recipe_reader.specs.declared.recipe.Recipe.{Recipe}
use Rattle.recipe_reader.specs.declared.recipe.SkipReason.{SkipReason}
use Rattle.enrol_states.specs.declared.status.Status.{Status}
use Rattle.enrol_states.specs.declared.status.Status.TheVariants.{Enrolled, NotEnrolled, Disqualified, WasEnrolled, Error}
use Rattle.enrol_states.specs.declared.status.EnrolledReason.{EnrolledReason}
use Rattle.enrol_states.specs.declared.status.EnrolledReason.TheVariants as enrolled
use Rattle.enrol_states.specs.declared.status.NotEnrolledReason.{NotEnrolledReason}
use Rattle.enrol_states.specs.declared.status.NotEnrolledReason.TheVariants as not_enrolled
use Rattle.enrol_states.specs.declared.status.DisqualifiedReason.{DisqualifiedReason}
use Rattle.enrol_states.specs.declared.status.DisqualifiedReason.TheVariants as disqualified
use Rattle.enrol_states.specs.declared.status.ErrorCause.{ErrorCause}
use Rattle.enrol_states.specs.declared.status.ErrorCause.TheVariants as error
use Rattle.state_values.specs.declared.participation.Participation.{Participation}
use Rattle.state_values.specs.Outcome.{◌>>=◌}

-- ---- values

unfoldable pub slug_in : List ℕ → Option (List ℕ)
slug_in bytes = only_if (is_slug bytes) bytes

unfoldable pub text_in : List ℕ → Option (List ℕ)
text_in bytes = only_if (is_utf8 bytes) bytes

unfoldable pub number_in : List ℕ → Option ℕ
number_in bytes = only_if (length bytes == 8) (from_be_bytes w64 bytes)

unfoldable pub flag_in : List ℕ → Bool
flag_in bytes = bytes_eq bytes (1 ∷ [])

abbrev pub flags : Bool → Bool → Participation
flags experiments rollouts = record { experiments = experiments; rollouts = rollouts }

-- what a byte of participation says: 4, and 1 more where experiments are on, and 2 more where rollouts are on; in the old form
-- it was one flag
abbrev pub participation_of : ℕ → Option Participation
participation_of byte =
    if byte == 0 || byte == 4 then Some (flags false false)
    else if byte == 5 then Some (flags true false)
    else if byte == 6 then Some (flags false true)
    else if byte == 1 || byte == 7 then Some (flags true true)
    else None

unfoldable pub participation_in : List ℕ → Option Participation
participation_in [] = None
participation_in (byte ∷ []) = participation_of byte
participation_in (byte ∷ other ∷ rest) = None

unfoldable pub id_in : List ℕ → Option (List ℕ)
id_in bytes = parsed bytes

abbrev pub kept : Result Recipe SkipReason → Option Recipe
kept (Ok r) = Some r
kept (Err reason) = None

unfoldable pub recipe_in : List ℕ → Option Recipe
recipe_in bytes = do
  x ← tree_of bytes
  shallow ← only_if (nat_le (depth x) max_depth) x
  kept (recipe_of shallow)

-- ---- statuses

abbrev pub first : List ℕ → Option (ℕ × List ℕ)
first [] = None
first (x ∷ xs) = Some (x, xs)

abbrev pub enrolled_reason : ℕ → Option EnrolledReason
enrolled_reason letter = if letter == 81 then Some enrolled.Qualified else if letter == 79 then Some enrolled.OptIn else None

abbrev pub not_enrolled_reason : ℕ → Option NotEnrolledReason
not_enrolled_reason letter =
    if letter == 65 then Some not_enrolled.DifferentAppName
    else if letter == 67 then Some not_enrolled.DifferentChannel
    else if letter == 80 then Some not_enrolled.EnrollmentsPaused
    else if letter == 70 then Some not_enrolled.FeatureConflict
    else if letter == 83 then Some not_enrolled.NotSelected
    else if letter == 84 then Some not_enrolled.NotTargeted
    else if letter == 79 then Some not_enrolled.OptOut
    else None

abbrev pub disqualified_reason : ℕ → Option DisqualifiedReason
disqualified_reason letter =
    if letter == 69 then Some disqualified.Error
    else if letter == 70 then Some disqualified.FeatureConflict
    else if letter == 83 then Some disqualified.NotSelected
    else if letter == 84 then Some disqualified.NotTargeted
    else if letter == 79 then Some disqualified.OptOut
    else None

abbrev pub error_cause : ℕ → Option ErrorCause
error_cause letter =
    if letter == 85 then Some error.Unparsed
    else if letter == 70 then Some error.Faulted
    else if letter == 84 then Some error.NotTruth
    else if letter == 78 then Some error.NoUnit
    else None

unfoldable pub enrolled_in : List ℕ → Option Status
enrolled_in bytes = do
  p ← first bytes
  reason ← enrolled_reason p.0
  branch ← slug_in p.1
  Some (Enrolled reason branch)

unfoldable pub not_enrolled_in : List ℕ → Option Status
not_enrolled_in bytes = do
  p ← first bytes
  reason ← not_enrolled_reason p.0
  Some (NotEnrolled reason)

unfoldable pub disqualified_in : List ℕ → Option Status
disqualified_in bytes = do
  p ← first bytes
  reason ← disqualified_reason p.0
  branch ← slug_in p.1
  Some (Disqualified reason branch)

unfoldable pub was_enrolled_in : List ℕ → Option Status
was_enrolled_in bytes = do
  ended ← number_in (take 8 bytes)
  branch ← slug_in (drop 8 bytes)
  Some (WasEnrolled branch ended)

unfoldable pub error_in : List ℕ → Option Status
error_in bytes = do
  p ← first bytes
  cause ← error_cause p.0
  Some (Error cause)

unfoldable pub status_of_kind : ℕ → List ℕ → Option Status
status_of_kind kind rest =
    if kind == 69 then enrolled_in rest
    else if kind == 78 then not_enrolled_in rest
    else if kind == 68 then disqualified_in rest
    else if kind == 87 then was_enrolled_in rest
    else if kind == 88 then error_in rest
    else None

unfoldable pub status_in : List ℕ → Option Status
status_in bytes = do
  p ← first bytes
  status_of_kind p.0 p.1
