-- Which of a new state's lists are those of the state before.
use Rattle.std.specs.Prelude.{◌≡◌}
use Rattle.enrol_states.specs.declared.state.State.{State}
use Rattle.sequences.specs.ListParts.{IsPart}
use Rattle.sequences.specs.declared.list_part.ListPart.{ListPart}
use Rattle.state_codec.specs.declared.recipe_lists.RecipeLists.{RecipeLists}
use Rattle.state_codec.specs.declared.recipe_lists.RecipeLists.TheVariants.{AsBefore, AllBut, LiveAsBefore, MayDiffer}

-- both states have the same live and the same pending recipes
pub record HasSameRecipes (old new : State) : Type 0 where
  pub live : old.live ≡ new.live
  pub pending : old.pending ≡ new.pending

-- and the same slugs that are opted out and the same rows, but for these parts
pub record HasSameBut (opted_out rows : ListPart) (old new : State) : Type 0 where
  pub recipes : HasSameRecipes old new
  pub opted_out_part : IsPart opted_out old.opted_out new.opted_out
  pub row_part : IsPart rows old.rows new.rows

-- the lists of the second state that are said to be as before are those of the first
abbrev pub HasLists : RecipeLists → State → State → Type 0
HasLists AsBefore old new = HasSameRecipes old new
HasLists (AllBut opted_out rows) old new = HasSameBut opted_out rows old new
HasLists LiveAsBefore old new = old.live ≡ new.live
HasLists MayDiffer old new = Unit {0}
