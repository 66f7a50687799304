use Rattle.std.proofs.Common.{◌≡◌, map, take}
use Rattle.fml_merge.specs.Layers.{piece_of, pieces}
use Rattle.fml_merge.proofs.sorting.pieces.Given as goal

abbrev pub invariant-loop-layer : goal.invariant-loop-layer
invariant-loop-layer l = map piece_of l.pieces.items ≡ pieces (map (λ m. m.now) (take l.layer-index l.layers))
