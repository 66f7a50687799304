use Rattle.recipe_reader.specs.Equals.{recipe_Decides}
use Rattle.recipe_reader.proofs.laws.equal_recipes_are_one.Goals as goal

pub returns : goal.returns
returns c r s = recipe_Decides r s
