use Rattle.std.proofs.Common.{◌≡◌, ◌+◌, ◌*◌, map, take}
use Rattle.fml_value.specs.Typed.{height, items_height, entries_height, items_of, entries_of}
use Rattle.fml_value.specs.TypedOf.{typed_of}
use Rattle.fml_value.proofs.Trees.{value_tree, entry_tree}
use Rattle.fml_value.proofs.converting.+to_tree.Given as goal

abbrev pub decreases-to_tree : goal.decreases-to_tree
decreases-to_tree l = 2 * height (typed_of l.value.now)

abbrev pub decreases-items_from : goal.decreases-items_from
decreases-items_from l = 2 * items_height (items_of l.values.now) + 1

abbrev pub decreases-members_from : goal.decreases-members_from
decreases-members_from l = 2 * entries_height (entries_of l.entries.now) + 1

abbrev pub invariant-items_from-loop-value : goal.invariant-items_from-loop-value
invariant-items_from-loop-value l = l.items ≡ map value_tree (take l.value-index l.list)

abbrev pub invariant-members_from-loop-name : goal.invariant-members_from-loop-name
invariant-members_from-loop-name l = l.members ≡ map entry_tree (take l.name-index l.pairs)
