use Rattle.std.proofs.Common.{◌≡◌, ◌+◌, ◌*◌, map, take}
use Rattle.fml_value.specs.Typed.{height, items_height, entries_height, items_of, entries_of}
use Rattle.fml_value.specs.TypedOf.{typed_of, entry_of}
use Rattle.fml_value.proofs.copying.+copy.Given as goal

abbrev pub decreases-copy : goal.decreases-copy
decreases-copy l = 2 * height (typed_of l.value.now)

abbrev pub decreases-copy_inner : goal.decreases-copy_inner
decreases-copy_inner l = 2 * height l.inner.now + 1

abbrev pub decreases-copy_items : goal.decreases-copy_items
decreases-copy_items l = 2 * items_height (items_of l.items.now) + 1

abbrev pub decreases-copy_entries : goal.decreases-copy_entries
decreases-copy_entries l = 2 * entries_height (entries_of l.entries.now) + 1

abbrev pub invariant-copy_items-loop-value : goal.invariant-copy_items-loop-value
invariant-copy_items-loop-value l = l.copies ≡ map typed_of (take l.value-index l.values)

abbrev pub invariant-copy_entries-loop-name : goal.invariant-copy_entries-loop-name
invariant-copy_entries-loop-name l = l.copies ≡ map entry_of (take l.name-index l.pairs)
