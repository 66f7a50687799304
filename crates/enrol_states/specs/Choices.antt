-- What a user may choose, and how a choice is answered.
use Rattle.std.specs.Prelude.{◌≡◌, ℕ, nat_le, ◌&&◌, Bool, false, not, List, length, Contains, All, Some, None, Result, Ok, Err, IsTrue, ⊤}
use Rattle.std.specs.Ordering.{is_le}
use Rattle.recipe_reader.specs.Payloads.{slug_cmp, recipe_with}
use Rattle.recipe_reader.specs.Kinds.{kind_of}
use Rattle.recipe_reader.specs.declared.recipe.Recipe.{Recipe}
use Rattle.enrol_states.specs.Order.{is_in}
use Rattle.enrol_states.specs.Recipes.{has_branch}
use Rattle.enrol_states.specs.Participation.{takes_part}
use Rattle.enrol_states.specs.Features.{takes, IsFree}
use Rattle.enrol_states.specs.Commands.{after_opt_out, after_opt_in}
use Rattle.enrol_states.specs.declared.state.State.{State}
use Rattle.enrol_states.specs.declared.state.Row.{Row}
use Rattle.enrol_states.specs.declared.choices.OptOutFault.{OptOutFault}
use Rattle.enrol_states.specs.declared.choices.OptOutFault.TheVariants as out_faults
use Rattle.enrol_states.specs.declared.choices.OptInFault.{OptInFault}
use Rattle.enrol_states.specs.declared.choices.OptInFault.TheVariants as in_faults
use Rattle.enrol_states.specs.declared.next_state.NextState.{NextState}

-- ---- opt-outs

-- whether the slug isn't one of the slugs, and there is no room for it
abbrev pub has_no_room : List (List ℕ) → List ℕ → Bool
has_no_room slugs slug = not (is_in slugs slug) && nat_le 4096 (length slugs)

-- what an opt-out answers; want of memory is the one free answer
abbrev pub OptsOut : State → List ℕ → Result NextState OptOutFault → Type 0
OptsOut s slug (Ok next) = (has_no_room s.opted_out slug ≡ false) × (next.state ≡ after_opt_out s slug)
OptsOut s slug (Err out_faults.OptedOutLimit) = IsTrue (has_no_room s.opted_out slug)
OptsOut s slug (Err out_faults.OutOfMemory) = ⊤

-- ---- opt-ins

-- this is the slug's live recipe, participation of its kind is on, and it has the branch
pub record MayChoose (s : State) (slug branch : List ℕ) (r : Recipe) : Type 0 where
  pub recipe : recipe_with slug s.live ≡ Some r
  pub participating : IsTrue (takes_part s (kind_of r))
  pub offered : IsTrue (has_branch r branch)

-- a row takes the feature of the recipe: of these the row with the least slug, and of the features that it takes the least
pub record IsTaken (s : State) (r : Recipe) (holder feature : List ℕ) : Type 0 where
  pub row : Row
  pub is_row : Contains s.rows row
  pub slug : row.slug ≡ holder
  pub is_taken : IsTrue (takes s r row feature)
  pub least_slug : All (λ other. (f : List ℕ) → IsTrue (takes s r other f) → IsTrue (is_le (slug_cmp holder other.slug))) s.rows
  pub least_feature : (f : List ℕ) → IsTrue (takes s r row f) → IsTrue (is_le (slug_cmp feature f))

-- what an opt-in answers; want of memory is the one free answer
abbrev pub OptsIn : State → List ℕ → List ℕ → Result NextState OptInFault → Type 0
OptsIn s slug branch (Ok next) = (r : Recipe) × MayChoose s slug branch r × IsFree s r × (next.state ≡ after_opt_in s slug branch)
OptsIn s slug branch (Err in_faults.NoSuchExperiment) = recipe_with slug s.live ≡ None
OptsIn s slug branch (Err in_faults.NotParticipating) = (r : Recipe) × (recipe_with slug s.live ≡ Some r) × (takes_part s (kind_of r) ≡ false)
OptsIn s slug branch (Err in_faults.NoSuchBranch) = (r : Recipe) × (recipe_with slug s.live ≡ Some r) × IsTrue (takes_part s (kind_of r)) × (has_branch r branch ≡ false)
OptsIn s slug branch (Err (in_faults.FeatureTaken holder feature)) = (r : Recipe) × MayChoose s slug branch r × IsTaken s r holder feature
OptsIn s slug branch (Err in_faults.OutOfMemory) = ⊤
