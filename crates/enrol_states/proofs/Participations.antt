-- A state stays consistent where participation is switched.
use Rattle.std.proofs.Common.{◌≡◌, ℕ, Bool, true, false, List, Option, Some, None, refl, sym, ap, ◌∙◌, subst}
use Rattle.std.specs.Prelude.{◌||◌, IsTrue, if◌then◌else◌}
use Rattle.std.proofs.lemmas.List.Elements.{All-weaker}
use Rattle.recipe_reader.specs.Payloads.{has_slug, recipe_with}
use Rattle.recipe_reader.specs.Kinds.{kind_of}
use Rattle.recipe_reader.specs.declared.kinds.Kind.{Kind}
use Rattle.recipe_reader.specs.declared.kinds.Kind.TheVariants.{Experiment, Rollout}
use Rattle.recipe_reader.specs.declared.recipe.Recipe.{Recipe}
use Rattle.enrol_states.specs.Order.{Rise}
use Rattle.enrol_states.specs.Statuses.{IsSlug, IsStatus, is_enrolled, enrolled_branch}
use Rattle.enrol_states.specs.Consistent.{HasRecipe, HasBranch, IsNotOptedOut, IsParticipating, IsConsistent}
use Rattle.enrol_states.specs.Participation.{takes_part, may_take_part, covers, covers_recipe}
use Rattle.enrol_states.specs.Commands.{opted_out, row_left, after_participate}
use Rattle.enrol_states.specs.declared.participation.Kinds.{Kinds}
use Rattle.enrol_states.specs.declared.state.State.{State}
use Rattle.enrol_states.specs.declared.state.Row.{Row}
use Rattle.enrol_states.proofs.OptingOut.{is_enrolled-opted_out, enrolled_branch-opted_out, was_enrolled-opted_out, IsStatus-opted_out, All-image, slugs-image, left_or_same}
use Rattle.enrol_states.proofs.Exclusion as exclusion

pub not_enrolled : {A : Type 0} (row : Row) → IsTrue (is_enrolled (opted_out row.status)) → A
not_enrolled row h = let none = is_enrolled-opted_out row.status in absurd cc

pub no_branch : {A : Type 0} (row : Row) (branch : List ℕ) → enrolled_branch (opted_out row.status) ≡ Some branch → A
no_branch row branch h = let none = enrolled_branch-opted_out row.status in absurd cc

-- ---- what is on stays on

switched_on : (b flag : Bool) → IsTrue flag → IsTrue (if b then true else flag)
switched_on true flag h = refl
switched_on false flag h = h

switched_off : (b flag : Bool) → b ≡ false → IsTrue flag → IsTrue (if b then false else flag)
switched_off true flag e h = absurd cc
switched_off false flag e h = h

takes_part-on : (s : State) (kinds : Kinds) (kind : Kind) → IsTrue (takes_part s kind) → IsTrue (takes_part (after_participate s kinds true) kind)
takes_part-on s kinds Experiment h = switched_on (covers kinds Experiment) s.experiments h
takes_part-on s kinds Rollout h = switched_on (covers kinds Rollout) s.rollouts h

takes_part-off : (s : State) (kinds : Kinds) (kind : Kind) → covers kinds kind ≡ false → IsTrue (takes_part s kind) → IsTrue (takes_part (after_participate s kinds false) kind)
takes_part-off s kinds Experiment other h = switched_off (covers kinds Experiment) s.experiments other h
takes_part-off s kinds Rollout other h = switched_off (covers kinds Rollout) s.rollouts other h

may_take_part-on : (s : State) (kinds : Kinds) (o : Option Recipe) → IsTrue (may_take_part s o) → IsTrue (may_take_part (after_participate s kinds true) o)
may_take_part-on s kinds None h = h
may_take_part-on s kinds (Some r) h = takes_part-on s kinds (kind_of r) h

may_take_part-off : (s : State) (kinds : Kinds) (o : Option Recipe) → covers_recipe kinds o ≡ false → IsTrue (may_take_part s o) → IsTrue (may_take_part (after_participate s kinds false) o)
may_take_part-off s kinds None other h = h
may_take_part-off s kinds (Some r) other h = takes_part-off s kinds (kind_of r) other h

-- ---- the state

pub consistent : (s : State) (kinds : Kinds) (on : Bool) → IsConsistent s → IsConsistent (after_participate s kinds on)
consistent s kinds true c = let t = after_participate s kinds true in record {
  id = c.id;
  installed = c.installed;
  updated = c.updated;
  version = c.version;
  opted_out_slugs = c.opted_out_slugs;
  opted_out_order = c.opted_out_order;
  opted_out_limit = c.opted_out_limit;
  coenrolling_names = c.coenrolling_names;
  coenrolling_order = c.coenrolling_order;
  live = c.live;
  pending = c.pending;
  row_slugs = c.row_slugs;
  row_order = c.row_order;
  row_statuses = c.row_statuses;
  row_recipes = c.row_recipes;
  row_branches = c.row_branches;
  row_choices = c.row_choices;
  row_participation = All-weaker (IsParticipating s) (IsParticipating t) (λ row h enrolled. may_take_part-on s kinds (recipe_with row.slug s.live) (h enrolled)) s.rows c.row_participation;
  exclusive = exclusion.participate s kinds true c.exclusive;
}
consistent s kinds false c = let t = after_participate s kinds false in record {
  id = c.id;
  installed = c.installed;
  updated = c.updated;
  version = c.version;
  opted_out_slugs = c.opted_out_slugs;
  opted_out_order = c.opted_out_order;
  opted_out_limit = c.opted_out_limit;
  coenrolling_names = c.coenrolling_names;
  coenrolling_order = c.coenrolling_order;
  live = c.live;
  pending = c.pending;
  row_slugs = All-image (λ row. IsSlug row.slug) (λ row. IsSlug row.slug) (row_left s kinds) s.rows (λ row h. left_or_same (λ r. IsSlug r.slug) s kinds row h (λ other. h)) c.row_slugs;
  row_order = subst Rise (sym (slugs-image (row_left s kinds) s.rows (λ row. left_or_same (λ r. r.slug ≡ row.slug) s kinds row refl (λ other. refl)))) c.row_order;
  row_statuses = All-image (λ row. IsStatus row.status) (λ row. IsStatus row.status) (row_left s kinds) s.rows (λ row h. left_or_same (λ r. IsStatus r.status) s kinds row (IsStatus-opted_out row.status h) (λ other. h)) c.row_statuses;
  row_recipes = All-image (HasRecipe s) (HasRecipe t) (row_left s kinds) s.rows (λ row h. left_or_same (HasRecipe t) s kinds row (ap (λ b. b || has_slug row.slug s.live) (was_enrolled-opted_out row.status) ∙ h) (λ other. h)) c.row_recipes;
  row_branches = All-image (HasBranch s) (HasBranch t) (row_left s kinds) s.rows (λ row h. left_or_same (HasBranch t) s kinds row (λ branch there. no_branch row branch there) (λ other. h)) c.row_branches;
  row_choices = All-image (IsNotOptedOut s) (IsNotOptedOut t) (row_left s kinds) s.rows (λ row h. left_or_same (IsNotOptedOut t) s kinds row (λ enrolled. not_enrolled row enrolled) (λ other. h)) c.row_choices;
  row_participation = All-image (IsParticipating s) (IsParticipating t) (row_left s kinds) s.rows
      (λ row h. left_or_same (IsParticipating t) s kinds row (λ enrolled. not_enrolled row enrolled) (λ other enrolled. may_take_part-off s kinds (recipe_with row.slug s.live) other (h enrolled))) c.row_participation;
  exclusive = exclusion.participate s kinds false c.exclusive;
}
