-- What the commands make of a state.
use Rattle.std.specs.Prelude.{ℕ, ◌&&◌, Bool, true, false, List, [], ◌∷◌, map, filter, not, bytes_eq, if◌then◌else◌}
use Rattle.std.specs.Ordering.{match_ordering}
use Rattle.std.specs.BTreeSet.{insert_key}
use Rattle.recipe_reader.specs.Payloads.{slug_cmp, recipe_with}
use Rattle.recipe_reader.specs.declared.kinds.Kind.{Kind}
use Rattle.recipe_reader.specs.declared.kinds.Kind.TheVariants.{Experiment, Rollout}
use Rattle.enrol_states.specs.Participation.{covers, covers_recipe}
use Rattle.enrol_states.specs.declared.participation.Kinds.{Kinds}
use Rattle.enrol_states.specs.declared.state.State.{State}
use Rattle.enrol_states.specs.declared.state.Row.{Row}
use Rattle.enrol_states.specs.declared.status.Status.{Status}
use Rattle.enrol_states.specs.declared.status.Status.TheVariants as statuses
use Rattle.enrol_states.specs.declared.status.EnrolledReason.TheVariants as enrolled
use Rattle.enrol_states.specs.declared.status.NotEnrolledReason.TheVariants as not_enrolled
use Rattle.enrol_states.specs.declared.status.DisqualifiedReason.TheVariants as disqualified

-- what an opt-out makes of a status
abbrev pub opted_out : Status → Status
opted_out (statuses.Enrolled reason branch) = statuses.Disqualified disqualified.OptOut branch
opted_out (statuses.NotEnrolled reason) = statuses.NotEnrolled not_enrolled.OptOut
opted_out s = s

-- whether an opt-out makes another status of it
abbrev pub changes_at_opt_out : Status → Bool
changes_at_opt_out (statuses.Enrolled reason branch) = true
changes_at_opt_out (statuses.NotEnrolled not_enrolled.OptOut) = false
changes_at_opt_out (statuses.NotEnrolled reason) = true
changes_at_opt_out s = false

abbrev pub row_opted_out : Row → Row
row_opted_out row = record { slug = row.slug; status = opted_out row.status }

-- ---- participation

-- the row after participation in these kinds has ended: an opt-out of it, where its live recipe belongs to the kinds
abbrev pub row_left : State → Kinds → Row → Row
row_left s kinds row = if covers_recipe kinds (recipe_with row.slug s.live) then row_opted_out row else row

-- whether that is another row
abbrev pub leaves : State → Kinds → Row → Bool
leaves s kinds row = changes_at_opt_out row.status && covers_recipe kinds (recipe_with row.slug s.live)

-- the rows of a client that takes part in recipes of these kinds, or not
abbrev pub rows_after_participate : State → Kinds → Bool → List Row
rows_after_participate s kinds true = s.rows
rows_after_participate s kinds false = map (row_left s kinds) s.rows

-- participation of a kind, where that of these kinds is switched
abbrev pub switched : Kinds → Kind → Bool → Bool → Bool
switched kinds kind on before = if covers kinds kind then on else before

-- the client takes part in recipes of these kinds, or not; where it doesn't, it is opted out of every live recipe of the kinds
abbrev pub after_participate : State → Kinds → Bool → State
after_participate s kinds on =
    record s { experiments = switched kinds Experiment on s.experiments; rollouts = switched kinds Rollout on s.rollouts; rows = rows_after_participate s kinds on }

-- ---- opt-outs

abbrev pub opted_out_of : List ℕ → Row → Row
opted_out_of slug row = if bytes_eq row.slug slug then row_opted_out row else row

-- the client takes part in the slug's recipe no more: its enrolment ends as an opt-out. The slug isn't opted out
abbrev pub enrolment_ended : List ℕ → State → State
enrolment_ended slug s = record s { rows = map (opted_out_of slug) s.rows }

-- the slug is opted out, and the client is enrolled in its recipe no more
abbrev pub after_opt_out : State → List ℕ → State
after_opt_out s slug = record s { opted_out = insert_key slug_cmp s.opted_out slug; rows = map (opted_out_of slug) s.rows }

-- ---- opt-ins

abbrev pub without_text : List ℕ → List (List ℕ) → List (List ℕ)
without_text t ts = filter (λ u. not (bytes_eq u t)) ts

-- the rows with one for the slug, in the place of the one that was there
abbrev pub with_row : Row → List Row → List Row
with_row r [] = r ∷ []
with_row r (q ∷ qs) = match_ordering (slug_cmp r.slug q.slug) (r ∷ q ∷ qs) (r ∷ qs) (q ∷ with_row r qs)

abbrev pub opted_in : List ℕ → List ℕ → Row
opted_in slug branch = record { slug = slug; status = statuses.Enrolled enrolled.OptIn branch }

-- the slug isn't opted out, and the client is enrolled in the branch that its user chose
abbrev pub after_opt_in : State → List ℕ → List ℕ → State
after_opt_in s slug branch = record s { opted_out = without_text slug s.opted_out; rows = with_row (opted_in slug branch) s.rows }

-- ---- a reset

-- the client has another id, and nothing is known of what it was to the recipes and of opt-outs
abbrev pub after_reset : State → List ℕ → State
after_reset s id = record s { id = id; opted_out = []; rows = [] }
