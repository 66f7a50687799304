-- A status in bytes: a letter for its kind, and a letter for its reason or the moment of its end, and the branch.
use Rattle.std.specs.Prelude.{ℕ, List, ◌++◌, codes}
use Rattle.std.specs.Int.{w64, to_be_bytes}
use Rattle.enrol_states.specs.declared.status.Status.{Status}
use Rattle.enrol_states.specs.declared.status.Status.TheVariants.{Enrolled, NotEnrolled, Disqualified, WasEnrolled, Error}
use Rattle.enrol_states.specs.declared.status.EnrolledReason.{EnrolledReason}
use Rattle.enrol_states.specs.declared.status.EnrolledReason.TheVariants as enrolled
use Rattle.enrol_states.specs.declared.status.NotEnrolledReason.{NotEnrolledReason}
use Rattle.enrol_states.specs.declared.status.NotEnrolledReason.TheVariants as not_enrolled
use Rattle.enrol_states.specs.declared.status.DisqualifiedReason.{DisqualifiedReason}
use Rattle.enrol_states.specs.declared.status.DisqualifiedReason.TheVariants as disqualified
use Rattle.enrol_states.specs.declared.status.ErrorCause.{ErrorCause}
use Rattle.enrol_states.specs.declared.status.ErrorCause.TheVariants as error

-- a number in eight bytes, the highest first
unfoldable pub number : ℕ → List ℕ
number n = to_be_bytes w64 n

abbrev pub enrolled_mark : EnrolledReason → List ℕ
enrolled_mark enrolled.Qualified = codes "EQ"
enrolled_mark enrolled.OptIn = codes "EO"

abbrev pub not_enrolled_mark : NotEnrolledReason → List ℕ
not_enrolled_mark not_enrolled.DifferentAppName = codes "NA"
not_enrolled_mark not_enrolled.DifferentChannel = codes "NC"
not_enrolled_mark not_enrolled.EnrollmentsPaused = codes "NP"
not_enrolled_mark not_enrolled.FeatureConflict = codes "NF"
not_enrolled_mark not_enrolled.NotSelected = codes "NS"
not_enrolled_mark not_enrolled.NotTargeted = codes "NT"
not_enrolled_mark not_enrolled.OptOut = codes "NO"

abbrev pub disqualified_mark : DisqualifiedReason → List ℕ
disqualified_mark disqualified.Error = codes "DE"
disqualified_mark disqualified.FeatureConflict = codes "DF"
disqualified_mark disqualified.NotSelected = codes "DS"
disqualified_mark disqualified.NotTargeted = codes "DT"
disqualified_mark disqualified.OptOut = codes "DO"

abbrev pub error_mark : ErrorCause → List ℕ
error_mark error.Unparsed = codes "XU"
error_mark error.Faulted = codes "XF"
error_mark error.NotTruth = codes "XT"
error_mark error.NoUnit = codes "XN"

abbrev pub status_bytes : Status → List ℕ
status_bytes (Enrolled reason branch) = enrolled_mark reason ++ branch
status_bytes (NotEnrolled reason) = not_enrolled_mark reason
status_bytes (Disqualified reason branch) = disqualified_mark reason ++ branch
status_bytes (WasEnrolled branch ended) = codes "W" ++ (number ended ++ branch)
status_bytes (Error cause) = error_mark cause
