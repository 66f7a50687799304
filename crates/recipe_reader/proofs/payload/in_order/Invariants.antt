use Rattle.recipe_reader.proofs.Taken.{Gone}
use Rattle.recipe_reader.proofs.payload.in_order.Given as goal

abbrev pub invariant-loop-recipe : goal.invariant-loop-recipe
invariant-loop-recipe l = Gone l.recipes l.recipe-iterator l.fn.map.entries
