use Rattle.recipe_reader.proofs.Stated as stated
use Rattle.recipe_reader.proofs.laws.recipes_are_stated.Goals as goal

pub returns : goal.returns
returns c = stated.recipes_are_stated
