-- A tree is the tree of its value.
use Rattle.std.proofs.Common.{◌≡◌}
use Rattle.json_tree.specs.Tree.{json_of}
use Rattle.json_tree.specs.Inverse.{tree_from, tree_from-json_of}
use Rattle.json_tree.specs.declared.tree.Tree.{Tree}

pub same_trees : (t : Tree) → tree_from (json_of t) ≡ t
same_trees = tree_from-json_of
