use Rattle.std.proofs.Common.{◌≡◌, ◌+◌, ◌*◌, map, take}
use Rattle.json_tree.specs.Json.{depth, items_depth, members_depth, items_of, members_of}
use Rattle.json_tree.specs.Tree.{json_of, member_of}
use Rattle.fml_types.specs.Capped.{cap}
use Rattle.fml_types.specs.Graph.{objects_in_items, objects_in_members}
use Rattle.fml_types.proofs.graph.+objects_in.Given as goal

abbrev pub decreases-objects_in : goal.decreases-objects_in
decreases-objects_in l = 2 * depth (json_of l.tree.now)

abbrev pub decreases-objects_in_items : goal.decreases-objects_in_items
decreases-objects_in_items l = 2 * items_depth (items_of l.items.now) + 1

abbrev pub decreases-objects_in_members : goal.decreases-objects_in_members
decreases-objects_in_members l = 2 * members_depth (members_of l.members.now) + 1

abbrev pub invariant-objects_in_items-loop-tree : goal.invariant-objects_in_items-loop-tree
invariant-objects_in_items-loop-tree l = l.count ≡ cap (objects_in_items (items_of (map json_of (take l.tree-index l.trees))))

abbrev pub invariant-objects_in_members-loop-tree : goal.invariant-objects_in_members-loop-tree
invariant-objects_in_members-loop-tree l = l.count ≡ cap (objects_in_members (members_of (map member_of (take l.tree-index l.pairs))))
