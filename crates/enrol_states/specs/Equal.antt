-- Equality of states, part by part.
use Rattle.std.specs.Prelude.{ℕ, ◌==◌, ◌&&◌, Bool, true, false, List, Option, Some, None, bytes_eq}
use Rattle.std.specs.Bool.{beq}
use Rattle.std.specs.Cmp.Lexicographic.{pointwise}
use Rattle.recipe_reader.specs.Equal.{recipe_eq}
use Rattle.recipe_reader.specs.declared.recipe.Recipe.{Recipe}
use Rattle.enrol_states.specs.declared.state.State.{State}
use Rattle.enrol_states.specs.declared.state.Row.{Row}
use Rattle.enrol_states.specs.declared.status.Status.{Status}
use Rattle.enrol_states.specs.declared.status.Status.TheVariants as statuses
use Rattle.enrol_states.specs.declared.status.EnrolledReason.{EnrolledReason}
use Rattle.enrol_states.specs.declared.status.EnrolledReason.TheVariants as enrolled
use Rattle.enrol_states.specs.declared.status.NotEnrolledReason.{NotEnrolledReason}
use Rattle.enrol_states.specs.declared.status.NotEnrolledReason.TheVariants as not_enrolled
use Rattle.enrol_states.specs.declared.status.DisqualifiedReason.{DisqualifiedReason}
use Rattle.enrol_states.specs.declared.status.DisqualifiedReason.TheVariants as disqualified
use Rattle.enrol_states.specs.declared.status.ErrorCause.{ErrorCause}
use Rattle.enrol_states.specs.declared.status.ErrorCause.TheVariants as causes

-- ---- the reasons and causes, each as its place

abbrev pub enrolled_place : EnrolledReason → ℕ
enrolled_place enrolled.Qualified = 0
enrolled_place enrolled.OptIn = 1

abbrev pub not_enrolled_place : NotEnrolledReason → ℕ
not_enrolled_place not_enrolled.DifferentAppName = 0
not_enrolled_place not_enrolled.DifferentChannel = 1
not_enrolled_place not_enrolled.EnrollmentsPaused = 2
not_enrolled_place not_enrolled.FeatureConflict = 3
not_enrolled_place not_enrolled.NotSelected = 4
not_enrolled_place not_enrolled.NotTargeted = 5
not_enrolled_place not_enrolled.OptOut = 6

abbrev pub disqualified_place : DisqualifiedReason → ℕ
disqualified_place disqualified.Error = 0
disqualified_place disqualified.FeatureConflict = 1
disqualified_place disqualified.NotSelected = 2
disqualified_place disqualified.NotTargeted = 3
disqualified_place disqualified.OptOut = 4

abbrev pub cause_place : ErrorCause → ℕ
cause_place causes.Unparsed = 0
cause_place causes.Faulted = 1
cause_place causes.NotTruth = 2
cause_place causes.NoUnit = 3

abbrev pub enrolled_eq : EnrolledReason → EnrolledReason → Bool
enrolled_eq r q = enrolled_place r == enrolled_place q

abbrev pub not_enrolled_eq : NotEnrolledReason → NotEnrolledReason → Bool
not_enrolled_eq r q = not_enrolled_place r == not_enrolled_place q

abbrev pub disqualified_eq : DisqualifiedReason → DisqualifiedReason → Bool
disqualified_eq r q = disqualified_place r == disqualified_place q

abbrev pub cause_eq : ErrorCause → ErrorCause → Bool
cause_eq c d = cause_place c == cause_place d

-- ---- statuses, rows and states

abbrev pub status_eq : Status → Status → Bool
status_eq (statuses.Enrolled r b) (statuses.Enrolled q c) = enrolled_eq r q && bytes_eq b c
status_eq (statuses.NotEnrolled r) (statuses.NotEnrolled q) = not_enrolled_eq r q
status_eq (statuses.Disqualified r b) (statuses.Disqualified q c) = disqualified_eq r q && bytes_eq b c
status_eq (statuses.WasEnrolled b m) (statuses.WasEnrolled c n) = bytes_eq b c && m == n
status_eq (statuses.Error c) (statuses.Error d) = cause_eq c d
status_eq s t = false

abbrev pub row_eq : Row → Row → Bool
row_eq r q = bytes_eq r.slug q.slug && status_eq r.status q.status

abbrev pub pending_eq : Option (List Recipe) → Option (List Recipe) → Bool
pending_eq None None = true
pending_eq (Some rs) (Some ss) = pointwise recipe_eq rs ss
pending_eq p q = false

-- what a state says of its client
abbrev pub client_eq : State → State → Bool
client_eq s t = bytes_eq s.id t.id && (s.installed == t.installed && (s.updated == t.updated && (bytes_eq s.version t.version && (beq s.experiments t.experiments && beq s.rollouts t.rollouts))))

-- what a state says of the recipes
abbrev pub recipes_eq : State → State → Bool
recipes_eq s t =
    pointwise bytes_eq s.opted_out t.opted_out
    && (pointwise bytes_eq s.coenrolling t.coenrolling && (pointwise recipe_eq s.live t.live && (pending_eq s.pending t.pending && pointwise row_eq s.rows t.rows)))

abbrev pub state_eq : State → State → Bool
state_eq s t = client_eq s t && recipes_eq s t
