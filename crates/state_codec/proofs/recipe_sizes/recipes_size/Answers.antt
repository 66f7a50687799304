-- One recipe more.
use Rattle.std.proofs.Common.{arith}
use Rattle.state_codec.proofs.RecipeWalk.{size_more}
use Rattle.state_codec.proofs.Records.{records_more}
use Rattle.state_codec.proofs.Valids.{valid_at}
use Rattle.state_codec.proofs.recipe_sizes.recipes_size.Goals as goal

pub recipe_size-size-requires : goal.recipe_size-size-requires
recipe_size-size-requires c = valid_at c.args.recipes.now c.loop-recipe.recipe-index c.recipe-item.result c.loop-recipe-test.true c.recipe-item.is c.requires.valid

pub loop-recipe-preserved : goal.loop-recipe-preserved
loop-recipe-preserved c =
    let recipes = c.args.recipes.now in
    let i = c.loop-recipe.recipe-index in
    let recipe = c.recipe-item.result in
    let one = c.recipe_size-size.ensures in
    record {
      size = omega (arith, c.loop-recipe.invariant.size, size_more recipes i recipe c.loop-recipe-test.true c.recipe-item.is, one.size);
      bound = omega (arith, c.loop-recipe.invariant.bound, one.bound);
      records = records_more recipes i recipe c.loop-recipe-test.true c.recipe-item.is c.loop-recipe.invariant.records one.record;
    }
