-- One recipe more, which is above those before it.
use Rattle.std.proofs.Common.{rules}
use Rattle.recipe_reader.proofs.Taken.{gone_none, gone_above, gone_more, gone_all}
use Rattle.recipe_reader.proofs.payload.in_order.Goals as goal

pub loop-recipe-init : goal.loop-recipe-init
loop-recipe-init c = gone_none _ _ _ c.new-recipes.ensures (search rules)

pub push-requires : goal.push-requires
push-requires c = gone_above _ _ _ _ _ c.loop-recipe.invariant c.in-Some.ensures.steps c.requires c.into_iter-recipe-iterator.ensures.into_iter_gives.5

pub loop-recipe-preserved : goal.loop-recipe-preserved
loop-recipe-preserved c = gone_more _ _ _ _ _ _ c.loop-recipe.invariant c.in-Some.ensures.steps c.in_ok-push.ensures.ok

pub returns : goal.returns
returns c = gone_all _ _ _ c.loop-recipe.invariant c.in-None.ensures.steps.0
