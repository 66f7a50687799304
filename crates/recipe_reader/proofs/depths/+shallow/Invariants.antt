use Rattle.std.proofs.Common.{◌≤◌, ◌+◌, ◌*◌, map, take}
use Rattle.json_tree.specs.Json.{items_depth, members_depth, items_of, members_of}
use Rattle.json_tree.specs.Tree.{json_of, member_of}
use Rattle.recipe_reader.proofs.depths.+shallow.Given as goal

abbrev pub decreases-are_items_shallow : goal.decreases-are_items_shallow
decreases-are_items_shallow l = 2 * l.most + 1

abbrev pub decreases-are_members_shallow : goal.decreases-are_members_shallow
decreases-are_members_shallow l = 2 * l.most + 1

abbrev pub decreases-is_shallow : goal.decreases-is_shallow
decreases-is_shallow l = 2 * l.most

abbrev pub invariant-are_items_shallow-loop-tree : goal.invariant-are_items_shallow-loop-tree
invariant-are_items_shallow-loop-tree l = items_depth (items_of (map json_of (take l.tree-index l.trees))) ≤ l.most

abbrev pub invariant-are_members_shallow-loop-tree : goal.invariant-are_members_shallow-loop-tree
invariant-are_members_shallow-loop-tree l = members_depth (members_of (map member_of (take l.tree-index l.pairs))) ≤ l.most
