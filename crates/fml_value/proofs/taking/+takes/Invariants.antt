use Rattle.std.proofs.Common.{◌≡◌, drop}
use Rattle.fml_types.specs.Shapes.{shape_of}
use Rattle.fml_value.specs.Takes.{takes, all_items}
use Rattle.fml_value.proofs.Walking.{of_trees}
use Rattle.fml_value.proofs.taking.+takes.Given as goal

abbrev pub invariant-takes_list-loop-tree : goal.invariant-takes_list-loop-tree
invariant-takes_list-loop-tree l = of_trees (all_items (takes l.types (shape_of l.of))) l.trees ≡ of_trees (all_items (takes l.types (shape_of l.of))) (drop l.tree-index l.trees)
