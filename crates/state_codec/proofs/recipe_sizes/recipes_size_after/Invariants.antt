use Rattle.std.proofs.Common.{◌+◌, length}
use Rattle.state_codec.proofs.RecipeWalk.{IsWalk}
use Rattle.state_codec.proofs.recipe_sizes.recipes_size_after.Given as goal

abbrev pub invariant-loop-old : goal.invariant-loop-old
invariant-loop-old l = IsWalk l.size l.olds l.news l.fn.news

abbrev pub decreases-loop-old : goal.decreases-loop-old
decreases-loop-old l = length l.olds + length l.news
