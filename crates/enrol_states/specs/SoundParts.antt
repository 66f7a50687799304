-- The parts of a consistent state, as they are tested.
use Rattle.std.specs.Prelude.{◌≡◌, ◌≤◌, ℕ, false, List, Option, Some, None, All, IsTrue, length, ⊤}
use Rattle.plain_text.specs.Names.{is_name}
use Rattle.recipe_reader.specs.Payloads.{AreValid, recipe_with}
use Rattle.recipe_reader.specs.declared.recipe.Recipe.{Recipe}
use Rattle.enrol_states.specs.Order.{Rise, is_in}
use Rattle.enrol_states.specs.State.{slugs_of}
use Rattle.enrol_states.specs.Statuses.{last_moment, IsSlug, IsStatus}
use Rattle.enrol_states.specs.Consistent.{AreKept, ArePending, HasRecipe, HasBranch, IsNotOptedOut, IsParticipating}
use Rattle.enrol_states.specs.Participation.{may_take_part}
use Rattle.enrol_states.specs.Recipes.{offers}
use Rattle.enrol_states.specs.declared.state.State.{State}
use Rattle.enrol_states.specs.declared.state.Row.{Row}

-- the recipes that are pending, if any are, are valid
abbrev pub AreValidIf : Option (List Recipe) → Type 0
AreValidIf None = ⊤
AreValidIf (Some rs) = AreValid rs

pub record HasMoments (s : State) : Type 0 where
  pub installed : s.installed ≤ last_moment
  pub updated : s.updated ≤ last_moment

pub record HasOptOuts (s : State) : Type 0 where
  pub slugs : All IsSlug s.opted_out
  pub order : Rise s.opted_out
  pub limit : length s.opted_out ≤ 4096

pub record HasFeatures (s : State) : Type 0 where
  pub names : All (λ name. IsTrue (is_name name)) s.coenrolling
  pub order : Rise s.coenrolling

pub record HasRecipes (s : State) : Type 0 where
  pub live : AreKept s.live
  pub pending : ArePending s.pending

pub record IsRowOf (s : State) (row : Row) : Type 0 where
  pub status : IsStatus row.status
  pub recipe : HasRecipe s row
  pub branch : HasBranch s row
  pub choice : IsNotOptedOut s row
  pub participation : IsParticipating s row

pub record HasRows (s : State) : Type 0 where
  pub slugs : All (λ row. IsSlug row.slug) s.rows
  pub order : Rise (slugs_of s.rows)
  pub each : All (IsRowOf s) s.rows

-- participation of the kind of the slug's recipe is on, the user didn't opt out of the slug, and the recipe has the branch
pub record MayBeEnrolled (s : State) (slug branch : List ℕ) : Type 0 where
  pub slug_fits : IsSlug branch
  pub participation : IsTrue (may_take_part s (recipe_with slug s.live))
  pub choice : is_in s.opted_out slug ≡ false
  pub offer : IsTrue (offers (recipe_with slug s.live) branch)
