-- What the outcome for a valid recipe is like.
use Rattle.std.proofs.Common.{◌≡◌, ℕ, Bool, true, false, List, Option, None, Some, refl, subst}
use Rattle.std.specs.Prelude.{◌&&◌, not, IsTrue, ⊤, if◌then◌else◌}
use Rattle.recipe_reader.specs.Kinds.{kind_of}
use Rattle.recipe_reader.specs.Records.{IsValid}
use Rattle.recipe_reader.specs.declared.recipe.Recipe.{Recipe}
use Rattle.app_context.specs.declared.context.Context.{Context}
use Rattle.sampling.specs.Sampling.{point_of}
use Rattle.enrol_states.specs.Recipes.{has_branch}
use Rattle.enrol_states.specs.Statuses.{IsSlug, IsStatus, is_enrolled, enrolled_branch}
use Rattle.enrol_states.specs.Transitions.{CanOccur, may_return, outcome_outside, outcome_inside, outcome_qualified, outcome_disqualified}
use Rattle.enrol_states.specs.declared.state.State.{State}
use Rattle.enrol_states.specs.declared.status.Status.{Status}
use Rattle.enrol_states.specs.declared.status.Status.TheVariants.{Enrolled, NotEnrolled, Disqualified, WasEnrolled, Error}
use Rattle.enrol_states.specs.declared.status.EnrolledReason.{EnrolledReason}
use Rattle.enrol_states.specs.declared.status.EnrolledReason.TheVariants as enrolled
use Rattle.enrol_states.specs.declared.status.DisqualifiedReason.{DisqualifiedReason}
use Rattle.enrol_states.specs.declared.verdict.Verdict.{Verdict}
use Rattle.enrol_states.specs.declared.verdict.Verdict.TheVariants as verdicts
use Rattle.enrol_states.specs.declared.verdict.Outcome.{Outcome}
use Rattle.enrol_states.specs.declared.verdict.Outcome.TheVariants.{Keep, Wish}
use Rattle.enrol_evolver.specs.declared.targeting.Targeting.{Targeting}
use Rattle.enrol_evolver.specs.declared.targeting.Targeting.TheVariants as targetings
use Rattle.enrol_evolver.specs.Targeting.{targeting}
use Rattle.enrol_evolver.specs.Verdicts.{holds_point, bucket_text, branch_text, branch_at, sampled, sampled_by, targeted, differs, unit_value, id_text, is_out, first_line, judged, by_choice, verdict_from}
use Rattle.enrol_evolver.specs.Wishes.{outcome_from, is_wish, status_by}
use Rattle.enrol_evolver.proofs.Validity.{AreBranches, have_branches}
use Rattle.enrol_evolver.proofs.Choosing.{branch-offered}

-- ---- verdicts

-- a verdict by sampling offers one of the recipe's branches
abbrev pub IsSampled : Recipe → Verdict → Type 0
IsSampled r (verdicts.Qualified branch) = IsSlug branch × IsTrue (has_branch r branch)
IsSampled r verdicts.EnrollmentsPaused = ⊥
IsSampled r v = ⊤

-- what is known of a verdict on a recipe, of which the client is enrolled or not, and opted out or not
abbrev pub IsJudged : Recipe → (is_enrolled out : Bool) → Verdict → Type 0
IsJudged r is_enrolled out (verdicts.Qualified branch) = IsSlug branch × IsTrue (has_branch r branch) × (out ≡ false)
IsJudged r is_enrolled out verdicts.EnrollmentsPaused = is_enrolled ≡ false
IsJudged r is_enrolled out v = ⊤

sampled_at : (r : Recipe) (point : ℕ) (b : Bool) → AreBranches r.branches → IsSampled r (if b then verdicts.Qualified (branch_at point r.branches) else verdicts.NotSelected)
sampled_at r point true bs = branch-offered point r.branches bs.some bs.slugs
sampled_at r point false bs = tt

pub sampled-fits : (r : Recipe) (value : Option (List ℕ)) → IsValid r → IsSampled r (sampled_by r value)
sampled-fits r None valid = tt
sampled-fits r (Some value) valid = sampled_at r (point_of (branch_text value r.slug)) (holds_point r.bucket (point_of (bucket_text value r.bucket.namespace))) (have_branches r valid)

targeted-fits : (r : Recipe) (t : Targeting) (v : Verdict) → IsSampled r v → IsSampled r (targeted t v)
targeted-fits r targetings.Passes v h = h
targeted-fits r targetings.Misses v h = tt
targeted-fits r (targetings.Fails cause) v h = tt

not_out : (r : Recipe) (is_enrolled : Bool) (v : Verdict) → IsSampled r v → IsJudged r is_enrolled false v
not_out r is_enrolled (verdicts.Qualified branch) h = (h.0, h.1, refl)
not_out r is_enrolled verdicts.EnrollmentsPaused h = absurd h
not_out r is_enrolled verdicts.DifferentAppName h = tt
not_out r is_enrolled verdicts.DifferentChannel h = tt
not_out r is_enrolled verdicts.OptOut h = tt
not_out r is_enrolled verdicts.NotTargeted h = tt
not_out r is_enrolled (verdicts.Failed cause) h = tt
not_out r is_enrolled verdicts.NotSelected h = tt

line-fits : (r : Recipe) (a c out paused is_enrolled : Bool) (t : Targeting) (v : Verdict) → IsSampled r v → IsJudged r is_enrolled out (first_line a c out (paused && not is_enrolled) t v)
line-fits r true c out paused is_enrolled t v h = tt
line-fits r false true out paused is_enrolled t v h = tt
line-fits r false false true paused is_enrolled t v h = tt
line-fits r false false false true false t v h = refl
line-fits r false false false true true t v h = not_out r true (targeted t v) (targeted-fits r t v h)
line-fits r false false false false is_enrolled t v h = not_out r is_enrolled (targeted t v) (targeted-fits r t v h)

pub judged-fits : (context : Context) (s : State) (now : ℕ) (r : Recipe) (is_enrolled : Bool) → IsValid r → IsJudged r is_enrolled (is_out s r) (judged context s now r is_enrolled)
judged-fits context s now r is_enrolled valid =
    line-fits r (differs r.app_name context.app_name) (differs r.channel context.channel) (is_out s r) r.paused is_enrolled (targeting context s now r) (sampled context s now r) (sampled-fits r (unit_value context (id_text s.id) r.bucket.unit) valid)

-- ---- outcomes

-- a status that a slug with this live recipe may have, whose user is opted out or not
pub record IsFitting (r : Recipe) (out : Bool) (st : Status) : Type 0 where
  pub status : IsStatus st
  pub branch : (b : List ℕ) → enrolled_branch st ≡ Some b → IsTrue (has_branch r b)
  pub choice : IsTrue (is_enrolled st) → out ≡ false

-- an outcome that may be; no enrolment is kept but by a wish
abbrev pub FitsOutcome : Recipe → Bool → Outcome → Type 0
FitsOutcome r out (Keep st) = IsFitting r out st × (is_enrolled st ≡ false)
FitsOutcome r out (Wish won lost) = IsFitting r out won × IsFitting r out lost × (is_enrolled lost ≡ false)

abbrev pub IsOld : Option Status → Type 0
IsOld None = ⊤
IsOld (Some st) = IsStatus st

not_fitting : (r : Recipe) (out : Bool) (st : Status) → IsStatus st → enrolled_branch st ≡ None → is_enrolled st ≡ false → IsFitting r out st
not_fitting r out st status none outside = record { status = status; branch = λ b e. absurd cc; choice = λ h. absurd cc }

outside-fits : (r : Recipe) (out : Bool) (v : Verdict) → IsJudged r false out v → FitsOutcome r out (outcome_outside v)
outside-fits r out verdicts.DifferentAppName h = (not_fitting r out _ tt refl refl, refl)
outside-fits r out verdicts.DifferentChannel h = (not_fitting r out _ tt refl refl, refl)
outside-fits r out verdicts.OptOut h = (not_fitting r out _ tt refl refl, refl)
outside-fits r out verdicts.EnrollmentsPaused h = (not_fitting r out _ tt refl refl, refl)
outside-fits r out verdicts.NotTargeted h = (not_fitting r out _ tt refl refl, refl)
outside-fits r out verdicts.NotSelected h = (not_fitting r out _ tt refl refl, refl)
outside-fits r out (verdicts.Failed cause) h = (not_fitting r out _ tt refl refl, refl)
outside-fits r out (verdicts.Qualified branch) h =
    (record { status = h.0; branch = λ b e. let same : branch ≡ b = cc in subst (λ x. IsTrue (has_branch r x)) same h.1; choice = λ en. h.2 }, not_fitting r out _ tt refl refl, refl)

qualified-fits : (r : Recipe) (out : Bool) (reason : EnrolledReason) (branch : List ℕ) (there : Bool) → has_branch r branch ≡ there → IsSlug branch → out ≡ false → FitsOutcome r out (outcome_qualified reason branch there)
qualified-fits r out reason branch true e slug free =
    (record { status = slug; branch = λ b f. let same : branch ≡ b = cc in subst (λ x. IsTrue (has_branch r x)) same e; choice = λ en. free }, not_fitting r out _ slug refl refl, refl)
qualified-fits r out reason branch false e slug free = (not_fitting r out _ slug refl refl, refl)

-- what is known of a verdict on a recipe in which the client is enrolled
abbrev pub IsInside : Bool → Verdict → Type 0
IsInside out (verdicts.Qualified branch) = out ≡ false
IsInside out verdicts.EnrollmentsPaused = ⊥
IsInside out v = ⊤

inside-fits : (r : Recipe) (out : Bool) (reason : EnrolledReason) (branch : List ℕ) (v : Verdict) → IsSlug branch → IsInside out v → FitsOutcome r out (outcome_inside reason branch v r)
inside-fits r out reason branch verdicts.OptOut slug h = (not_fitting r out _ slug refl refl, refl)
inside-fits r out reason branch verdicts.DifferentAppName slug h = (not_fitting r out _ slug refl refl, refl)
inside-fits r out reason branch verdicts.DifferentChannel slug h = (not_fitting r out _ slug refl refl, refl)
inside-fits r out reason branch verdicts.NotTargeted slug h = (not_fitting r out _ slug refl refl, refl)
inside-fits r out reason branch verdicts.NotSelected slug h = (not_fitting r out _ slug refl refl, refl)
inside-fits r out reason branch (verdicts.Failed cause) slug h = (not_fitting r out _ slug refl refl, refl)
inside-fits r out reason branch (verdicts.Qualified chosen) slug h = qualified-fits r out reason branch (has_branch r branch) refl slug h
inside-fits r out reason branch verdicts.EnrollmentsPaused slug h = absurd h

as_inside : (r : Recipe) (out : Bool) (v : Verdict) → IsJudged r true out v → IsInside out v
as_inside r out (verdicts.Qualified branch) h = h.2
as_inside r out verdicts.EnrollmentsPaused h = absurd cc
as_inside r out verdicts.DifferentAppName h = tt
as_inside r out verdicts.DifferentChannel h = tt
as_inside r out verdicts.OptOut h = tt
as_inside r out verdicts.NotTargeted h = tt
as_inside r out (verdicts.Failed cause) h = tt
as_inside r out verdicts.NotSelected h = tt

chosen_at : (branch : List ℕ) (out : Bool) → IsInside out (if out then verdicts.OptOut else verdicts.Qualified branch)
chosen_at branch true = tt
chosen_at branch false = refl

chosen_inside : (s : State) (r : Recipe) (branch : List ℕ) (v : Verdict) → IsInside (is_out s r) (by_choice s r (Some branch) v)
chosen_inside s r branch v = chosen_at branch (is_out s r)

returning-fits : (r : Recipe) (out : Bool) (reason : DisqualifiedReason) (branch chosen : List ℕ) (may : Bool) → IsSlug branch → IsSlug chosen × IsTrue (has_branch r chosen) × (out ≡ false)
    → FitsOutcome r out (if may then Wish (Enrolled enrolled.Qualified chosen) (Disqualified reason branch) else Keep (Disqualified reason branch))
returning-fits r out reason branch chosen true slug h =
    (record { status = h.0; branch = λ b e. let same : chosen ≡ b = cc in subst (λ x. IsTrue (has_branch r x)) same h.1; choice = λ en. h.2 }, not_fitting r out _ slug refl refl, refl)
returning-fits r out reason branch chosen false slug h = (not_fitting r out _ slug refl refl, refl)

disqualified-fits : (r : Recipe) (out : Bool) (reason : DisqualifiedReason) (branch : List ℕ) (v : Verdict) → IsSlug branch → IsJudged r false out v → FitsOutcome r out (outcome_disqualified reason branch v r)
disqualified-fits r out reason branch (verdicts.Qualified chosen) slug h = returning-fits r out reason branch chosen (may_return reason (kind_of r)) slug h
disqualified-fits r out reason branch verdicts.OptOut slug h = (not_fitting r out _ slug refl refl, refl)
disqualified-fits r out reason branch verdicts.DifferentAppName slug h = (not_fitting r out _ slug refl refl, refl)
disqualified-fits r out reason branch verdicts.DifferentChannel slug h = (not_fitting r out _ slug refl refl, refl)
disqualified-fits r out reason branch verdicts.NotTargeted slug h = (not_fitting r out _ slug refl refl, refl)
disqualified-fits r out reason branch verdicts.NotSelected slug h = (not_fitting r out _ slug refl refl, refl)
disqualified-fits r out reason branch (verdicts.Failed cause) slug h = (not_fitting r out _ slug refl refl, refl)
disqualified-fits r out reason branch verdicts.EnrollmentsPaused slug h = (not_fitting r out _ slug refl refl, refl)

-- the outcome for a valid recipe
pub outcome-fits : (context : Context) (s : State) (now : ℕ) (r : Recipe) (old : Option Status) → IsValid r → IsOld old → FitsOutcome r (is_out s r) (outcome_from context s now r old)
outcome-fits context s now r None valid is_old = outside-fits r (is_out s r) _ (judged-fits context s now r false valid)
outcome-fits context s now r (Some (NotEnrolled reason)) valid is_old = outside-fits r (is_out s r) _ (judged-fits context s now r false valid)
outcome-fits context s now r (Some (Error cause)) valid is_old = outside-fits r (is_out s r) _ (judged-fits context s now r false valid)
outcome-fits context s now r (Some (Enrolled enrolled.Qualified branch)) valid is_old = inside-fits r (is_out s r) enrolled.Qualified branch _ is_old (as_inside r (is_out s r) _ (judged-fits context s now r true valid))
outcome-fits context s now r (Some (Enrolled enrolled.OptIn branch)) valid is_old = inside-fits r (is_out s r) enrolled.OptIn branch _ is_old (chosen_inside s r branch (judged context s now r true))
outcome-fits context s now r (Some (Disqualified reason branch)) valid is_old = disqualified-fits r (is_out s r) reason branch _ is_old (judged-fits context s now r false valid)
outcome-fits context s now r (Some (WasEnrolled branch ended)) valid is_old = (not_fitting r (is_out s r) _ is_old refl refl, refl)

-- a pause is no verdict on a client that is enrolled
can_inside : (v : Verdict) (reason : EnrolledReason) (branch : List ℕ) (out : Bool) → IsInside out v → CanOccur (Some (Enrolled reason branch)) v
can_inside (verdicts.Qualified chosen) reason branch out h = tt
can_inside verdicts.EnrollmentsPaused reason branch out h = absurd h
can_inside verdicts.DifferentAppName reason branch out h = tt
can_inside verdicts.DifferentChannel reason branch out h = tt
can_inside verdicts.OptOut reason branch out h = tt
can_inside verdicts.NotTargeted reason branch out h = tt
can_inside (verdicts.Failed cause) reason branch out h = tt
can_inside verdicts.NotSelected reason branch out h = tt

pub can-occur : (context : Context) (s : State) (now : ℕ) (r : Recipe) (old : Option Status) → IsValid r → CanOccur old (verdict_from context s now r old)
can-occur context s now r None valid = tt
can-occur context s now r (Some (NotEnrolled reason)) valid = tt
can-occur context s now r (Some (Error cause)) valid = tt
can-occur context s now r (Some (Disqualified reason branch)) valid = tt
can-occur context s now r (Some (WasEnrolled branch ended)) valid = tt
can-occur context s now r (Some (Enrolled enrolled.Qualified branch)) valid = can_inside _ enrolled.Qualified branch (is_out s r) (as_inside r (is_out s r) _ (judged-fits context s now r true valid))
can-occur context s now r (Some (Enrolled enrolled.OptIn branch)) valid = can_inside _ enrolled.OptIn branch (is_out s r) (chosen_inside s r branch (judged context s now r true))

-- ---- the status that comes of it

pub status-fits : (r : Recipe) (out : Bool) (o : Outcome) (g : Bool) → FitsOutcome r out o → IsFitting r out (status_by o g)
status-fits r out (Keep st) g h = h.0
status-fits r out (Wish won lost) true h = h.0
status-fits r out (Wish won lost) false h = h.1

-- an enrolment comes of a wish that is granted
pub enrolled-granted : (r : Recipe) (out : Bool) (o : Outcome) (g : Bool) → FitsOutcome r out o → is_enrolled (status_by o g) ≡ true → (is_wish o ≡ true) × (g ≡ true)
enrolled-granted r out (Keep st) g h e = absurd (let none = h.1 in cc)
enrolled-granted r out (Wish won lost) true h e = (refl, refl)
enrolled-granted r out (Wish won lost) false h e = absurd (let none = h.2 in cc)
