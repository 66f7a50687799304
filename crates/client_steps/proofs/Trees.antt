-- The tree that is a JSON value.
use Rattle.std.proofs.Common.{◌≡◌, sym, ap, ◌∙◌}
use Rattle.json_tree.specs.Json.{Json}
use Rattle.json_tree.specs.Tree.{json_of}
use Rattle.json_tree.specs.declared.tree.Tree.{Tree}
use Rattle.json_tree.specs.Inverse.{tree_from, tree_from-json_of}

-- a tree of this value is it
pub tree_of_value : (t : Tree) (x : Json) → json_of t ≡ x → t ≡ tree_from x
tree_of_value t x is = sym (tree_from-json_of t) ∙ ap tree_from is
