use Rattle.std.proofs.Common.{◌≡◌, ◌+◌, ◌*◌, take}
use Rattle.std.specs.List.{sum_by}
use Rattle.json_tree.specs.Json.{depth, items_depth, members_depth, items_of, members_of}
use Rattle.json_tree.specs.Tree.{json_of}
use Rattle.json_length.proofs.Lengths.{tree_item, tree_member}
use Rattle.json_length.proofs.trees.+left_after.Given as goal

abbrev pub decreases-left_after : goal.decreases-left_after
decreases-left_after l = 2 * depth (json_of l.tree.now)

abbrev pub decreases-left_after_items : goal.decreases-left_after_items
decreases-left_after_items l = 2 * items_depth (items_of l.items.now) + 1

abbrev pub decreases-left_after_members : goal.decreases-left_after_members
decreases-left_after_members l = 2 * members_depth (members_of l.members.now) + 1

abbrev pub invariant-left_after_items-loop-tree : goal.invariant-left_after_items-loop-tree
invariant-left_after_items-loop-tree l = l.left + 1 + sum_by tree_item (take l.tree-index l.trees) ≡ l.bytes

abbrev pub invariant-left_after_members-loop-key : goal.invariant-left_after_members-loop-key
invariant-left_after_members-loop-key l = l.left + 1 + sum_by tree_member (take l.key-index l.pairs) ≡ l.bytes
