-- What follows a change of the enrolment: the outbox gets the changes of enrolments, and the preferences do their leaves and then their
-- joins.
use Rattle.std.specs.Prelude.{◌+◌, ℕ, Bool, false, nat_lt, List, [], ◌∷◌, length, Option, None, Some}
use Rattle.std.specs.Option.{unwrap_or}
use Rattle.recipe_reader.specs.Payloads.{recipe_with}
use Rattle.recipe_reader.specs.declared.recipe.Recipe.{Recipe}
use Rattle.enrol_states.specs.declared.state.State.{State}
use Rattle.fml_types.specs.declared.manifest.Manifest.{Manifest}
use Rattle.change_outbox.specs.Changes.{changes_between}
use Rattle.change_outbox.specs.Contents.{Contents, appended, last_number}
use Rattle.change_outbox.specs.declared.change.Change.{Change}
use Rattle.change_outbox.specs.declared.change.ChangeKind.{ChangeKind}
use Rattle.change_outbox.specs.declared.change.ChangeKind.TheVariants.{Join, Leave}
use Rattle.pref_bindings.specs.Bound.{bound_values}
use Rattle.pref_bindings.specs.Changes.{Setting, joined, left}
use Rattle.pref_bindings.specs.declared.bindings.Binding.{Binding}
use Rattle.pref_bindings.specs.declared.preference.Preference.{Preference}
use Rattle.client_state.specs.Changes.{state_after}
use Rattle.client_state.specs.declared.client_state.ClientState.{ClientState}
use Rattle.client_state.specs.declared.state_change.NextEnrolment.{NextEnrolment}
use Rattle.client_state.specs.declared.state_change.StateChange.{StateChange}

-- ---- the outbox

-- the changes of enrolments from one enrolment to another
abbrev pub changes_from : State → State → List Change
changes_from e next = changes_between e.rows next.rows

-- the outbox that has them too
abbrev pub appended_changes : State → State → Contents → Contents
appended_changes e next o = appended (changes_from e next) o

-- whether the next number of the outbox would pass the greatest one
abbrev pub is_spent : State → State → Contents → Bool
is_spent e next o = nat_lt last_number (o.next + length (changes_from e next))

-- ---- the values of a join

-- what the branch of a recipe sets of the bound preferences: nothing where there is no manifest, there are no bindings, or there is
-- no recipe
abbrev pub values_by : Option Manifest → Option (List Binding) → Option Recipe → List ℕ → List Setting
values_by (Some manifest) (Some bindings) (Some recipe) branch = bound_values manifest recipe branch bindings
values_by manifest bindings recipe branch = []

-- what a join sets: by the slug's live recipe
abbrev pub join_values : Option Manifest → Option (List Binding) → State → Change → List Setting
join_values manifest bindings e c = values_by manifest bindings (recipe_with c.slug e.live) c.branch

-- ---- the preferences

-- the preferences after a change, where it is a leave of the slug
abbrev pub leave_done : ChangeKind → List ℕ → List Preference → List Preference
leave_done Join slug ps = ps
leave_done Leave slug ps = left slug ps

-- the preferences after a change, where it is a join of the slug, which sets these values
abbrev pub join_done : ChangeKind → List ℕ → List Setting → List Preference → List Preference
join_done Join slug values ps = joined slug values ps
join_done Leave slug values ps = ps

-- the preferences after the leaves of these changes
abbrev pub leaves_done : List Change → List Preference → List Preference
leaves_done [] ps = ps
leaves_done (c ∷ cs) ps = leaves_done cs (leave_done c.kind c.slug ps)

-- and after their joins, each of which sets its values
abbrev pub joins_done : (Change → List Setting) → List Change → List Preference → List Preference
joins_done values [] ps = ps
joins_done values (c ∷ cs) ps = joins_done values cs (join_done c.kind c.slug (values c) ps)

-- all leaves are done before all joins
abbrev pub changes_done : (Change → List Setting) → List Change → List Preference → List Preference
changes_done values cs ps = joins_done values cs (leaves_done cs ps)

-- ---- a change of the state

-- the outbox, which gets the changes where there is a next enrolment
abbrev pub outbox_after : State → Option NextEnrolment → Contents → Contents
outbox_after e None o = o
outbox_after e (Some next) o = appended_changes e next.state o

-- the preferences, which do the changes where there is a next enrolment
abbrev pub preferences_after : Option Manifest → Option (List Binding) → State → Option NextEnrolment → List Preference → List Preference
preferences_after manifest bindings e None ps = ps
preferences_after manifest bindings e (Some next) ps = changes_done (join_values manifest bindings next.state) (changes_from e next.state) ps

-- the state after the change, and after what follows it
abbrev pub followed : Option Manifest → Option (List Binding) → StateChange → ClientState → ClientState
followed manifest bindings change s = let t = state_after change s in record t {
  outbox = outbox_after s.enrolment change.enrolment t.outbox;
  preferences = preferences_after manifest bindings s.enrolment change.enrolment t.preferences;
}

abbrev pub is_spent_after : State → Option NextEnrolment → Contents → Bool
is_spent_after e None o = false
is_spent_after e (Some next) o = is_spent e next.state o

-- whether the outbox has no numbers for the changes
abbrev pub spends : StateChange → ClientState → Bool
spends change s = is_spent_after s.enrolment change.enrolment (unwrap_or change.outbox s.outbox)
