-- What a client's status becomes: by its verdict on a live recipe, and where there is no live recipe.
use Rattle.std.specs.Prelude.{ℕ, ◌+◌, nat_le, Bool, true, false, List, Option, Some, None, ⊤, if◌then◌else◌}
use Rattle.recipe_reader.specs.Kinds.{kind_of}
use Rattle.recipe_reader.specs.declared.kinds.Kind.{Kind}
use Rattle.recipe_reader.specs.declared.kinds.Kind.TheVariants.{Rollout}
use Rattle.recipe_reader.specs.declared.recipe.Recipe.{Recipe}
use Rattle.enrol_states.specs.Recipes.{has_branch}
use Rattle.enrol_states.specs.declared.status.Status.{Status}
use Rattle.enrol_states.specs.declared.status.Status.TheVariants as statuses
use Rattle.enrol_states.specs.declared.status.EnrolledReason.{EnrolledReason}
use Rattle.enrol_states.specs.declared.status.EnrolledReason.TheVariants as enrolled
use Rattle.enrol_states.specs.declared.status.NotEnrolledReason.TheVariants as not_enrolled
use Rattle.enrol_states.specs.declared.status.DisqualifiedReason.{DisqualifiedReason}
use Rattle.enrol_states.specs.declared.status.DisqualifiedReason.TheVariants as disqualified
use Rattle.enrol_states.specs.declared.verdict.Verdict.{Verdict}
use Rattle.enrol_states.specs.declared.verdict.Verdict.TheVariants as verdicts
use Rattle.enrol_states.specs.declared.verdict.Outcome.{Outcome}
use Rattle.enrol_states.specs.declared.verdict.Outcome.TheVariants.{Keep, Wish}

-- of a client that never took part
abbrev pub outcome_outside : Verdict → Outcome
outcome_outside verdicts.DifferentAppName = Keep (statuses.NotEnrolled not_enrolled.DifferentAppName)
outcome_outside verdicts.DifferentChannel = Keep (statuses.NotEnrolled not_enrolled.DifferentChannel)
outcome_outside verdicts.OptOut = Keep (statuses.NotEnrolled not_enrolled.OptOut)
outcome_outside verdicts.EnrollmentsPaused = Keep (statuses.NotEnrolled not_enrolled.EnrollmentsPaused)
outcome_outside verdicts.NotTargeted = Keep (statuses.NotEnrolled not_enrolled.NotTargeted)
outcome_outside verdicts.NotSelected = Keep (statuses.NotEnrolled not_enrolled.NotSelected)
outcome_outside (verdicts.Failed cause) = Keep (statuses.Error cause)
outcome_outside (verdicts.Qualified branch) = Wish (statuses.Enrolled enrolled.Qualified branch) (statuses.NotEnrolled not_enrolled.FeatureConflict)

-- of a client that qualifies and is enrolled in a branch, which the recipe has or not
abbrev pub outcome_qualified : EnrolledReason → List ℕ → Bool → Outcome
outcome_qualified reason branch there =
    if there then Wish (statuses.Enrolled reason branch) (statuses.Disqualified disqualified.FeatureConflict branch) else Keep (statuses.Disqualified disqualified.Error branch)

-- of a client that is enrolled in a branch
abbrev pub outcome_inside : EnrolledReason → List ℕ → Verdict → Recipe → Outcome
outcome_inside reason branch verdicts.OptOut recipe = Keep (statuses.Disqualified disqualified.OptOut branch)
outcome_inside reason branch verdicts.DifferentAppName recipe = Keep (statuses.Disqualified disqualified.NotTargeted branch)
outcome_inside reason branch verdicts.DifferentChannel recipe = Keep (statuses.Disqualified disqualified.NotTargeted branch)
outcome_inside reason branch verdicts.NotTargeted recipe = Keep (statuses.Disqualified disqualified.NotTargeted branch)
outcome_inside reason branch verdicts.NotSelected recipe = Keep (statuses.Disqualified disqualified.NotSelected branch)
outcome_inside reason branch (verdicts.Failed cause) recipe = Keep (statuses.Disqualified disqualified.Error branch)
outcome_inside reason branch (verdicts.Qualified chosen) recipe = outcome_qualified reason branch (has_branch recipe branch)
outcome_inside reason branch verdicts.EnrollmentsPaused recipe = Keep (statuses.Enrolled reason branch)

-- whether what disqualified a client of a recipe of the kind may pass: a rollout's range grows, and its targeting may hold again
abbrev pub may_return : DisqualifiedReason → Kind → Bool
may_return disqualified.NotSelected Rollout = true
may_return disqualified.NotTargeted Rollout = true
may_return reason kind = false

-- of a client that was disqualified in a branch
abbrev pub outcome_disqualified : DisqualifiedReason → List ℕ → Verdict → Recipe → Outcome
outcome_disqualified reason branch (verdicts.Qualified chosen) recipe =
    if may_return reason (kind_of recipe) then Wish (statuses.Enrolled enrolled.Qualified chosen) (statuses.Disqualified reason branch) else Keep (statuses.Disqualified reason branch)
outcome_disqualified reason branch verdict recipe = Keep (statuses.Disqualified reason branch)

-- of a client with an old status or none
abbrev pub outcome : Option Status → Verdict → Recipe → Outcome
outcome None verdict recipe = outcome_outside verdict
outcome (Some (statuses.NotEnrolled reason)) verdict recipe = outcome_outside verdict
outcome (Some (statuses.Error cause)) verdict recipe = outcome_outside verdict
outcome (Some (statuses.Enrolled reason branch)) verdict recipe = outcome_inside reason branch verdict recipe
outcome (Some (statuses.Disqualified reason branch)) verdict recipe = outcome_disqualified reason branch verdict recipe
outcome (Some (statuses.WasEnrolled branch ended)) verdict recipe = Keep (statuses.WasEnrolled branch ended)

-- an enrolled client is never stopped by a pause
abbrev pub CanOccur : Option Status → Verdict → Type 0
CanOccur (Some (statuses.Enrolled reason branch)) verdicts.EnrollmentsPaused = ⊥
CanOccur old verdict = ⊤

-- a year of 365 days, in seconds
abbrev pub year : ℕ
year = 31536000

-- what stays of a status where there is no live recipe
abbrev pub status_ended : Status → ℕ → Option Status
status_ended (statuses.Enrolled reason branch) now = Some (statuses.WasEnrolled branch now)
status_ended (statuses.Disqualified reason branch) now = Some (statuses.WasEnrolled branch now)
status_ended (statuses.NotEnrolled reason) now = None
status_ended (statuses.Error cause) now = None
status_ended (statuses.WasEnrolled branch ended) now = if nat_le (ended + year) now then None else Some (statuses.WasEnrolled branch ended)
