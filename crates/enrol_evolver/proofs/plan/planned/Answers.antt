use Rattle.std.proofs.Common.{sym, subst}
use Rattle.recipe_reader.specs.Payloads.{AreValid}
use Rattle.enrol_evolver.proofs.PlannedWishes.{entries-more, wishes-more, valid-at}
use Rattle.enrol_evolver.proofs.plan.planned.Goals as goal

pub add-requires-clause-valid : goal.add-requires-clause-valid
add-requires-clause-valid g c = valid-at c.as_slice-recipe-items.result.now c.loop-recipe.recipe-index c.recipe-item.result c.loop-recipe-test.true c.recipe-item.is (subst AreValid (sym c.as_slice-recipe-items.ensures.recipes) c.requires.valid)

pub loop-recipe-preserved : goal.loop-recipe-preserved
loop-recipe-preserved g c =
    let client = c.args.client.now in
    let rs = c.as_slice-recipe-items.result.now in
    let i = c.loop-recipe.recipe-index in
    record {
      entries = entries-more client.context.now client.state.now client.moment rs i c.recipe-item.result _ _ c.loop-recipe-test.true c.recipe-item.is c.loop-recipe.invariant.entries c.in_ok-add.ensures.entries;
      wishes = wishes-more client.context.now client.state.now client.moment rs i c.recipe-item.result _ _ c.loop-recipe-test.true c.recipe-item.is c.loop-recipe.invariant.wishes c.in_ok-add.ensures.wishes;
      ready = c.in_ok-add.ensures.ready;
    }
