-- The verdict on a live recipe: the first line of a table that applies.
use Rattle.std.specs.Prelude.{ℕ, ◌*◌, ◌^◌, ◌++◌, ◌&&◌, ◌||◌, nat_lt, not, Bool, false, List, [], ◌∷◌, length, map, sum, Option, Some, None, codes, bytes_eq, slice_get, unwrap_or, if◌then◌else◌}
use Rattle.std.specs.List.{find, range_with_len}
use Rattle.uuid.specs.Text.{hyphenated_text, lower}
use Rattle.json_tree.specs.Json.{text, list, items_of}
use Rattle.json_tree.specs.Bytes.{text_of}
use Rattle.recipe_reader.specs.Kinds.{kind_of}
use Rattle.recipe_reader.specs.declared.recipe.Recipe.{Recipe}
use Rattle.recipe_reader.specs.declared.recipe.Bucket.{Bucket}
use Rattle.recipe_reader.specs.declared.recipe.Branch.{Branch}
use Rattle.sampling.specs.Sampling.{point_of, is_in_range, sum_through}
use Rattle.app_context.specs.Named.{text_with}
use Rattle.app_context.specs.declared.context.Context.{Context}
use Rattle.enrol_states.specs.Order.{is_in}
use Rattle.enrol_states.specs.Participation.{takes_part}
use Rattle.enrol_states.specs.State.{status_of}
use Rattle.enrol_states.specs.Statuses.{is_enrolled_now}
use Rattle.enrol_states.specs.declared.state.State.{State}
use Rattle.enrol_states.specs.declared.status.Status.{Status}
use Rattle.enrol_states.specs.declared.status.Status.TheVariants as statuses
use Rattle.enrol_states.specs.declared.status.EnrolledReason.TheVariants as enrolled
use Rattle.enrol_states.specs.declared.status.ErrorCause.TheVariants.{NoUnit}
use Rattle.enrol_states.specs.declared.verdict.Verdict.{Verdict}
use Rattle.enrol_states.specs.declared.verdict.Verdict.TheVariants as verdicts
use Rattle.enrol_evolver.specs.Targeting.{targeting}
use Rattle.enrol_evolver.specs.declared.targeting.Targeting.{Targeting}
use Rattle.enrol_evolver.specs.declared.targeting.Targeting.TheVariants as targetings

-- ---- sampling

-- the text of an id: in lower case, with hyphens
unfoldable pub id_text : List ℕ → List ℕ
id_text id = hyphenated_text lower id

abbrev pub client_unit : List ℕ
client_unit = codes "nimbus_id"

-- the value of the unit that is sampled, where it has one: the client's id, or what the context says
abbrev pub unit_value : Context → List ℕ → List ℕ → Option (List ℕ)
unit_value context id unit = if bytes_eq unit client_unit then Some id else text_with unit context.units

-- what a client's bucket is drawn from: the JSON list of the unit's value and the namespace
unfoldable pub bucket_text : List ℕ → List ℕ → List ℕ
bucket_text value namespace = text_of (list (items_of (text value ∷ text namespace ∷ [])))

-- what its branch is drawn from: a JSON text of the unit's value and the recipe's slug
unfoldable pub branch_text : List ℕ → List ℕ → List ℕ
branch_text value slug = text_of (text (codes "experimentmanager-" ++ (value ++ (codes "-" ++ (slug ++ codes "-branch")))))

-- whether the point's bucket is in the range
abbrev pub holds_point : Bucket → ℕ → Bool
holds_point b point = is_in_range point b.start b.count b.total

abbrev pub ratios_of : List Branch → List ℕ
ratios_of branches = map (λ b. b.ratio) branches

-- whether the point is below the share of all points that falls to the branches up to the i-th
abbrev pub is_below_share : ℕ → List ℕ → ℕ → Bool
is_below_share point ratios i = nat_lt (point * sum ratios) (2 ^ 48 * sum_through ratios i)

-- the first branch up to which the point is below their share
abbrev pub branch_index : ℕ → List ℕ → ℕ
branch_index point ratios = unwrap_or (find (is_below_share point ratios) (range_with_len 0 (length ratios))) 0

abbrev pub branch_slug : Option Branch → List ℕ
branch_slug None = []
branch_slug (Some b) = b.slug

-- the slug of the branch that the point falls to
unfoldable pub branch_at : ℕ → List Branch → List ℕ
branch_at point branches = branch_slug (slice_get branches (branch_index point (ratios_of branches)))

-- what sampling finds of a client whose unit has this value, or none
abbrev pub sampled_by : Recipe → Option (List ℕ) → Verdict
sampled_by r None = verdicts.Failed NoUnit
sampled_by r (Some value) =
    if holds_point r.bucket (point_of (bucket_text value r.bucket.namespace)) then verdicts.Qualified (branch_at (point_of (branch_text value r.slug)) r.branches) else verdicts.NotSelected

-- what sampling finds of the client
abbrev pub sampled : Context → State → ℕ → Recipe → Verdict
sampled context s now r = sampled_by r (unit_value context (id_text s.id) r.bucket.unit)

-- ---- targeting

-- where it passes, what sampling finds counts
abbrev pub targeted : Targeting → Verdict → Verdict
targeted targetings.Passes found = found
targeted targetings.Misses found = verdicts.NotTargeted
targeted (targetings.Fails cause) found = verdicts.Failed cause

-- ---- the table

-- a name is there, and isn't the context's
abbrev pub differs : Option (List ℕ) → List ℕ → Bool
differs None own = false
differs (Some name) own = not (bytes_eq name own)

-- the first line that applies
abbrev pub first_line : (other_app other_channel out paused : Bool) → Targeting → Verdict → Verdict
first_line other_app other_channel out paused targeting found =
    if other_app then verdicts.DifferentAppName else (if other_channel then verdicts.DifferentChannel else (if out then verdicts.OptOut else (if paused then verdicts.EnrollmentsPaused else targeted targeting found)))

-- the user opted out of the recipe, or of all of its kind
abbrev pub is_out : State → Recipe → Bool
is_out s r = is_in s.opted_out r.slug || not (takes_part s (kind_of r))

-- the verdict on a recipe that the user didn't opt in to
abbrev pub judged : Context → State → ℕ → Recipe → (is_enrolled : Bool) → Verdict
judged context s now r is_enrolled = first_line (differs r.app_name context.app_name) (differs r.channel context.channel) (is_out s r) (r.paused && not is_enrolled) (targeting context s now r) (sampled context s now r)

-- the branch that the user opted in to
abbrev pub opted_in_branch : Option Status → Option (List ℕ)
opted_in_branch (Some (statuses.Enrolled enrolled.OptIn branch)) = Some branch
opted_in_branch old = None

-- the verdict on a recipe of which the user chose the branch
abbrev pub chosen : State → Recipe → List ℕ → Verdict
chosen s r branch = if is_out s r then verdicts.OptOut else verdicts.Qualified branch

abbrev pub by_choice : State → Recipe → Option (List ℕ) → Verdict → Verdict
by_choice s r None verdict = verdict
by_choice s r (Some branch) verdict = chosen s r branch

-- the verdict on a recipe of which the client has this old status or none
abbrev pub verdict_from : Context → State → ℕ → Recipe → Option Status → Verdict
verdict_from context s now r old = by_choice s r (opted_in_branch old) (judged context s now r (is_enrolled_now old))

abbrev pub verdict : Context → State → ℕ → Recipe → Verdict
verdict context s now r = verdict_from context s now r (status_of r.slug s.rows)
