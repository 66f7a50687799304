use Rattle.std.proofs.Common.{◌≡◌, ◌≤◌, Bor, option_map, take}
use Rattle.json_tree.specs.Tree.{json_of}
use Rattle.json_tree.specs.declared.tree.Tree.{Tree}
use Rattle.fml_types.specs.Shape.{Shape}
use Rattle.fml_types.specs.Shapes.{shape_of}
use Rattle.fml_value.specs.Typed.{TypedValue}
use Rattle.fml_merge.specs.Laying.{layers_of, trees_of}
use Rattle.fml_merge.specs.Layers.{objects_laid, replaced_by, trees_laid, depth_of, trees_depth, objects_depth}
use Rattle.fml_merge.proofs.runs.counted_trees.Given as goal

abbrev pub invariant-loop-piece : goal.invariant-loop-piece
invariant-loop-piece l = record {
  same : (zeros : Shape → TypedValue) (base : TypedValue)
      → objects_laid zeros l.types (shape_of l.of) (replaced_by zeros l.types (shape_of l.of) base (option_map (λ (t : Bor Tree). json_of t.now) l.replacing)) (layers_of l.objects.items)
      ≡ trees_laid zeros l.types (shape_of l.of) base (trees_of (take l.piece-index l.pieces));
  replacing : depth_of (option_map (λ (t : Bor Tree). json_of t.now) l.replacing) ≤ trees_depth (trees_of l.pieces);
  objects : objects_depth (layers_of l.objects.items) ≤ trees_depth (trees_of l.pieces);
}
