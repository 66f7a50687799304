-- Where no recipes are pending, both lists stay.
use Rattle.std.proofs.Common.{◌≡◌, ℕ, List, Option, None, sym, ap}
use Rattle.std.specs.Prelude.{unwrap_or}
use Rattle.app_context.specs.declared.context.Context.{Context}
use Rattle.recipe_reader.specs.declared.recipe.Recipe.{Recipe}
use Rattle.enrol_evolver.specs.Evolution.{evolution}
use Rattle.enrol_states.specs.declared.state.State.{State}
use Rattle.state_codec.specs.RecipeLists.{HasSameRecipes}
use Rattle.client_steps.proofs.apply.applied_lists.Goals as goal

lists_stay : (s : State) (context : Context) (coenrolling : List (List ℕ)) (now : ℕ) → s.pending ≡ None → HasSameRecipes s (evolution s context coenrolling now)
unfolding evolution
lists_stay s context coenrolling now none = record { live = ap (λ (p : Option (List Recipe)). unwrap_or p s.live) (sym none); pending = none }

pub returns-in-None : goal.returns-in-None
returns-in-None c context coenrolling now = lists_stay c.args.state.now context coenrolling now c.in-None.is
