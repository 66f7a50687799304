-- The states that a client can have.
use Rattle.std.specs.Prelude.{◌≡◌, ◌≤◌, ◌<◌, ℕ, ◌||◌, false, List, length, All, IsTrue, IsUtf8, Option, Some, None, ⊤}
use Rattle.plain_text.specs.Names.{is_name}
use Rattle.recipe_reader.specs.Payloads.{AreInOrder, AreValid, has_slug, recipe_with}
use Rattle.recipe_reader.specs.declared.recipe.Recipe.{Recipe}
use Rattle.enrol_states.specs.Order.{Rise, is_in}
use Rattle.enrol_states.specs.State.{slugs_of}
use Rattle.enrol_states.specs.Recipes.{offers}
use Rattle.enrol_states.specs.Participation.{may_take_part}
use Rattle.enrol_states.specs.Exclusive.{AreExclusive}
use Rattle.enrol_states.specs.Statuses.{last_moment, IsSlug, IsStatus, is_enrolled, was_enrolled, enrolled_branch}
use Rattle.enrol_states.specs.declared.state.State.{State}
use Rattle.enrol_states.specs.declared.state.Row.{Row}

-- the sixteen bytes of a UUID
pub record IsId (id : List ℕ) : Type 0 where
  pub sixteen : length id ≡ 16
  pub bytes : All (λ b. b < 256) id

-- at most 2,000 valid recipes, in order by slug
pub record AreKept (rs : List Recipe) : Type 0 where
  pub in_order : AreInOrder rs
  pub limit : length rs ≤ 2000
  pub valid : AreValid rs

abbrev pub ArePending : Option (List Recipe) → Type 0
ArePending None = ⊤
ArePending (Some rs) = AreKept rs

-- what the client was enrolled in may be gone; of every other row there is a live recipe
abbrev pub HasRecipe : State → Row → Type 0
HasRecipe s row = IsTrue (was_enrolled row.status || has_slug row.slug s.live)

-- where the client is enrolled, the live recipe has the branch
abbrev pub HasBranch : State → Row → Type 0
HasBranch s row = (branch : List ℕ) → enrolled_branch row.status ≡ Some branch → IsTrue (offers (recipe_with row.slug s.live) branch)

-- where the client is enrolled, its user didn't opt out
abbrev pub IsNotOptedOut : State → Row → Type 0
IsNotOptedOut s row = IsTrue (is_enrolled row.status) → is_in s.opted_out row.slug ≡ false

-- where the client is enrolled, participation of the live recipe's kind is on
abbrev pub IsParticipating : State → Row → Type 0
IsParticipating s row = IsTrue (is_enrolled row.status) → IsTrue (may_take_part s (recipe_with row.slug s.live))

-- a state that a client can have, but for the length of its encoding
pub record IsConsistent (s : State) : Type 0 where
  pub id : IsId s.id
  pub installed : s.installed ≤ last_moment
  pub updated : s.updated ≤ last_moment
  pub version : IsUtf8 s.version
  pub opted_out_slugs : All IsSlug s.opted_out
  pub opted_out_order : Rise s.opted_out
  pub opted_out_limit : length s.opted_out ≤ 4096
  pub coenrolling_names : All (λ name. IsTrue (is_name name)) s.coenrolling
  pub coenrolling_order : Rise s.coenrolling
  pub live : AreKept s.live
  pub pending : ArePending s.pending
  pub row_slugs : All (λ row. IsSlug row.slug) s.rows
  pub row_order : Rise (slugs_of s.rows)
  pub row_statuses : All (λ row. IsStatus row.status) s.rows
  pub row_recipes : All (HasRecipe s) s.rows
  pub row_branches : All (HasBranch s) s.rows
  pub row_choices : All (IsNotOptedOut s) s.rows
  pub row_participation : All (IsParticipating s) s.rows
  pub exclusive : AreExclusive s
