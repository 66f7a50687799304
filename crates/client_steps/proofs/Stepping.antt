-- The step of an outcome, the state with recipes pending, and what an accepted enrolment leaves.
use Rattle.std.proofs.Common.{◌≡◌, ℕ, Bool, true, false, List, Option, None, Some, ap, refl}
use Rattle.std.specs.Prelude.{if◌then◌else◌}
use Rattle.recipe_reader.specs.declared.recipe.Recipe.{Recipe}
use Rattle.enrol_states.specs.Commands.{enrolment_ended}
use Rattle.enrol_states.specs.declared.state.State.{State}
use Rattle.enrol_states.specs.Consistent.{IsConsistent, AreKept}
use Rattle.event_counts.specs.declared.name_counts.NameCounts.{NameCounts}
use Rattle.json_tree.specs.declared.tree.Tree.{Tree}
use Rattle.pref_bindings.specs.Preferences.{holder_of}
use Rattle.client_state.specs.Changes.{with_users_value}
use Rattle.client_state.specs.Following.{is_spent}
use Rattle.client_state.specs.declared.client_state.ClientState.{ClientState}
use Rattle.client_words.specs.declared.answer.Answer.{Answer}
use Rattle.client_words.specs.declared.answer.Answer.TheVariants.{Okay}
use Rattle.client_words.specs.declared.refusal.Refusal.TheVariants.{ChangesSpent}
use Rattle.client_words.specs.declared.command.Command.{Command}
use Rattle.client_steps.specs.declared.session.Session.{Session}
use Rattle.client_steps.specs.Settings.{Setting}
use Rattle.client_steps.specs.Steps.{Outcome, Accepted, Refused, with_enrolment, whole, releasing, valued_by_user, preferring, outcome, done, step}

-- with these recipes pending, a state is as consistent as before
pub pending_consistent : (s : State) (recipes : List Recipe) → IsConsistent s → AreKept recipes → IsConsistent (record s { pending = Some recipes })
pending_consistent s recipes was kept = record {
  id = was.id;
  installed = was.installed;
  updated = was.updated;
  version = was.version;
  opted_out_slugs = was.opted_out_slugs;
  opted_out_order = was.opted_out_order;
  opted_out_limit = was.opted_out_limit;
  coenrolling_names = was.coenrolling_names;
  coenrolling_order = was.coenrolling_order;
  live = was.live;
  pending = kept;
  row_slugs = was.row_slugs;
  row_order = was.row_order;
  row_statuses = was.row_statuses;
  row_recipes = was.row_recipes;
  row_branches = was.row_branches;
  row_choices = was.row_choices;
  row_participation = was.row_participation;
  exclusive = was.exclusive;
}

-- ---- an accepted enrolment

pub either : (P : Outcome → Type 0) (b : Bool) (x y : Outcome) → P x → (b ≡ false → P y) → P (if b then x else y)
either P true x y here there = here
either P false x y here there = there refl

-- what holds of both holds, whether the outbox has numbers for the changes or not
pub whole_either : (P : Outcome → Type 0) (s : ClientState) (session : Session) (counts : List NameCounts) (e : State) (next : Session) (answer : Answer) → P (Refused ChangesSpent)
    → (is_spent s.enrolment e s.outbox ≡ false → P (Accepted (with_enrolment session s e counts) next answer)) → P (whole s session counts (Accepted e next answer))
whole_either P s session counts e next answer spent fits = either P (is_spent s.enrolment e s.outbox) (Refused ChangesSpent) (Accepted (with_enrolment session s e counts) next answer) spent fits

-- ---- the user's preferences

-- the state without the holder's enrolment
abbrev pub without_holder : Session → ClientState → List ℕ → ClientState
without_holder session s holder = with_enrolment session s (enrolment_ended holder s.enrolment) s.events

-- what holds of all holds, whether somebody holds the preference and the outbox has a number for the end of that or not
pub preferring_either : (P : Outcome → Type 0) (s : ClientState) (session : Session) (name : List ℕ) (value : Option Tree) → P (Refused ChangesSpent)
    → (holder_of name s.preferences ≡ None → P (Accepted (with_users_value name value s) session Okay))
    → ((holder : List ℕ) → holder_of name s.preferences ≡ Some holder → is_spent s.enrolment (enrolment_ended holder s.enrolment) s.outbox ≡ false → P (Accepted (with_users_value name value (without_holder session s holder)) session Okay))
    → P (preferring s session name value)
preferring_either P s session name value spent free held = at (holder_of name s.preferences) refl
  where
    at : (o : Option (List ℕ)) → holder_of name s.preferences ≡ o → P (valued_by_user name value (releasing s session o))
    at None is = free is
    at (Some holder) is = whole_either (λ (asked : Outcome). P (valued_by_user name value asked)) s session s.events (enrolment_ended holder s.enrolment) session Okay spent (λ fits. held holder is fits)

-- ---- the step of each command

module _ (at : Setting) (s : ClientState) (session : Session) (command : Command) where
  pub step-of : (asked : Outcome) → asked ≡ outcome at s session command → done s session asked ≡ step at s session command
  unfolding step
  step-of asked same = ap (done s session) same
