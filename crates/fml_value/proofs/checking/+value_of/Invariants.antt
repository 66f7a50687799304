use Rattle.std.proofs.Common.{◌≡◌, ◌+◌, ◌*◌, map, take}
use Rattle.fml_types.specs.Shapes.{shape_of, key_of}
use Rattle.json_tree.specs.Json as json
use Rattle.json_tree.specs.Json.{depth, items_depth, members_depth}
use Rattle.json_tree.specs.Tree.{json_of, member_of}
use Rattle.fml_value.specs.HasType.{HaveType, AreEntries, AreFields}
use Rattle.fml_value.specs.Trees.{tree_of}
use Rattle.fml_value.specs.Typed.{items_of, entries_of}
use Rattle.fml_value.proofs.Trees.{typed_entry_tree}
use Rattle.fml_value.proofs.checking.+value_of.Given as goal

abbrev pub decreases-value_of : goal.decreases-value_of
decreases-value_of l = 6 * depth (json_of l.tree.now) + 3

abbrev pub decreases-bare_value_of : goal.decreases-bare_value_of
decreases-bare_value_of l = 6 * depth (json_of l.tree.now) + 2

abbrev pub decreases-list_of : goal.decreases-list_of
decreases-list_of l = 6 * depth (json_of l.tree.now) + 1

abbrev pub decreases-map_of : goal.decreases-map_of
decreases-map_of l = 6 * depth (json_of l.tree.now) + 1

abbrev pub decreases-named_of : goal.decreases-named_of
decreases-named_of l = 6 * depth (json_of l.tree.now) + 1

abbrev pub decreases-object_of : goal.decreases-object_of
decreases-object_of l = 6 * depth (json_of l.tree.now)

abbrev pub decreases-values_of : goal.decreases-values_of
decreases-values_of l = 6 * items_depth (json.items_of l.items.now) + 5

abbrev pub decreases-entries_of : goal.decreases-entries_of
decreases-entries_of l = 6 * members_depth (json.members_of l.members.now) + 5

abbrev pub decreases-fields_of : goal.decreases-fields_of
decreases-fields_of l = 6 * members_depth (json.members_of l.members.now) + 5

abbrev pub decreases-field_of : goal.decreases-field_of
decreases-field_of l = 6 * depth (json_of l.tree.now) + 4

abbrev pub invariant-values_of-loop-tree : goal.invariant-values_of-loop-tree
invariant-values_of-loop-tree l = HaveType l.types (shape_of l.of) (items_of l.values) × (map tree_of l.values ≡ map json_of (take l.tree-index l.trees))

abbrev pub invariant-entries_of-loop-name : goal.invariant-entries_of-loop-name
invariant-entries_of-loop-name l = AreEntries l.types (key_of l.key) (shape_of l.of) (entries_of l.entries) × (map typed_entry_tree l.entries ≡ map member_of (take l.name-index l.pairs))

abbrev pub invariant-fields_of-loop-place : goal.invariant-fields_of-loop-place
invariant-fields_of-loop-place l = AreFields l.types (take l.place l.fields) (entries_of l.entries) × (map typed_entry_tree l.entries ≡ map member_of (take l.place l.pairs))
