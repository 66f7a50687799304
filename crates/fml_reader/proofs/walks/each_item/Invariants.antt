use Rattle.std.proofs.Common.{◌≡◌}
use Rattle.fml_reader.proofs.Steps.{with_front, items_from}
use Rattle.fml_reader.proofs.walks.each_item.Given as goal

abbrev pub invariant-loop-index : goal.invariant-loop-index
invariant-loop-index g l = with_front l.items (items_from g.T.Part.said l.index l.trees) ≡ items_from g.T.Part.said 0 l.trees
