use Rattle.std.proofs.Common.{◌≡◌, ◌+◌, ◌*◌, map, take}
use Rattle.json_tree.specs.Json.{depth, items_depth, members_depth, items_of, members_of}
use Rattle.jexl_value.specs.Value.{as_json, member_of}
use Rattle.jexl_value.proofs.copying.+copy.Given as goal

abbrev pub decreases-copy : goal.decreases-copy
decreases-copy l = 2 * depth (as_json l.value.now)

abbrev pub decreases-copy_items : goal.decreases-copy_items
decreases-copy_items l = 2 * items_depth (items_of l.items.now) + 1

abbrev pub decreases-copy_members : goal.decreases-copy_members
decreases-copy_members l = 2 * members_depth (members_of l.members.now) + 1

abbrev pub invariant-copy_items-loop-value : goal.invariant-copy_items-loop-value
invariant-copy_items-loop-value l = l.copies ≡ map as_json (take l.value-index l.values)

abbrev pub invariant-copy_members-loop-name : goal.invariant-copy_members-loop-name
invariant-copy_members-loop-name l = l.copies ≡ map member_of (take l.name-index l.pairs)
