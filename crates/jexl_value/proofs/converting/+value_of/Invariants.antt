use Rattle.std.proofs.Common.{◌≡◌, ◌+◌, ◌*◌, map, take}
use Rattle.json_tree.specs.Json.{depth, items_depth, members_depth, items_of, members_of}
use Rattle.json_tree.specs.Tree.{json_of}
use Rattle.jexl_value.proofs.OfTree.{value_json, member_value}
use Rattle.jexl_value.proofs.converting.+value_of.Given as goal

abbrev pub decreases-value_of : goal.decreases-value_of
decreases-value_of l = 2 * depth (json_of l.tree.now)

abbrev pub decreases-list_of : goal.decreases-list_of
decreases-list_of l = 2 * items_depth (items_of l.items.now) + 1

abbrev pub decreases-object_of : goal.decreases-object_of
decreases-object_of l = 2 * members_depth (members_of l.members.now) + 1

abbrev pub invariant-list_of-loop-tree : goal.invariant-list_of-loop-tree
invariant-list_of-loop-tree l = l.values ≡ map value_json (take l.tree-index l.trees)

abbrev pub invariant-object_of-loop-name : goal.invariant-object_of-loop-name
invariant-object_of-loop-name l = l.values ≡ map member_value (take l.name-index l.pairs)
