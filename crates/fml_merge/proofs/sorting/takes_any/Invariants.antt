use Rattle.std.proofs.Common.{◌≡◌, map, drop}
use Rattle.std.specs.List.{list_any}
use Rattle.json_tree.specs.Tree.{json_of}
use Rattle.fml_types.specs.Shapes.{shape_of}
use Rattle.fml_value.specs.Takes.{takes}
use Rattle.fml_merge.specs.declared.sorting.Piece.{Piece}
use Rattle.fml_merge.proofs.sorting.takes_any.Given as goal

abbrev pub invariant-loop-piece : goal.invariant-loop-piece
invariant-loop-piece l = list_any (takes l.types (shape_of l.of)) (map (λ (p : Piece). json_of p.tree.now) l.pieces) ≡ list_any (takes l.types (shape_of l.of)) (map (λ (p : Piece). json_of p.tree.now) (drop l.piece-index l.pieces))
