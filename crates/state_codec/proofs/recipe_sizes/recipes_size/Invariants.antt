use Rattle.std.proofs.Common.{◌≡◌, ◌≤◌, ◌*◌, ◌^◌, take}
use Rattle.state_codec.specs.Sizes.{recipes_size}
use Rattle.state_codec.specs.Sound.{AreRecords}
use Rattle.state_codec.proofs.recipe_sizes.recipes_size.Given as goal

abbrev pub invariant-loop-recipe : goal.invariant-loop-recipe
invariant-loop-recipe l = record {
  size : l.size ≡ recipes_size (take l.recipe-index l.recipes);
  bound : l.size ≤ l.recipe-index * 2 ^ 79;
  records : AreRecords (take l.recipe-index l.recipes);
}
