use Rattle.std.proofs.Common.{◌≡◌, ◌+◌, ◌*◌, map, take}
use Rattle.json_tree.specs.Json.{depth, items_depth, members_depth, items_of, members_of}
use Rattle.jexl_value.specs.Value.{as_json, member_of}
use Rattle.jexl_value.proofs.converting.+tree_of.Given as goal

abbrev pub decreases-tree_of : goal.decreases-tree_of
decreases-tree_of l = 2 * depth (as_json l.value.now)

abbrev pub decreases-items_from : goal.decreases-items_from
decreases-items_from l = 2 * items_depth (items_of l.values.now) + 1

abbrev pub decreases-members_from : goal.decreases-members_from
decreases-members_from l = 2 * members_depth (members_of l.values.now) + 1

abbrev pub invariant-items_from-loop-value : goal.invariant-items_from-loop-value
invariant-items_from-loop-value l = l.items ≡ map as_json (take l.value-index l.list)

abbrev pub invariant-members_from-loop-name : goal.invariant-members_from-loop-name
invariant-members_from-loop-name l = l.members ≡ map member_of (take l.name-index l.pairs)
