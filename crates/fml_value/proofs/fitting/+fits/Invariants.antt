use Rattle.std.proofs.Common.{◌≡◌, ◌+◌, ◌*◌, drop}
use Rattle.fml_types.specs.Shapes.{shape_of, key_of}
use Rattle.json_tree.specs.Json.{depth, items_depth, members_depth, items_of, members_of}
use Rattle.json_tree.specs.Tree.{json_of}
use Rattle.fml_value.specs.Fits.{items_fit, members_fit, type_of_entry, type_of_field}
use Rattle.fml_value.proofs.Walking.{of_trees, of_pairs}
use Rattle.fml_value.proofs.fitting.+fits.Given as goal

abbrev pub decreases-fits : goal.decreases-fits
decreases-fits l = 4 * depth (json_of l.tree.now)

abbrev pub decreases-list_fits : goal.decreases-list_fits
decreases-list_fits l = 4 * items_depth (items_of l.items.now) + 2

abbrev pub decreases-items_fit : goal.decreases-items_fit
decreases-items_fit l = 4 * items_depth (items_of l.items.now) + 1

abbrev pub decreases-object_fits : goal.decreases-object_fits
decreases-object_fits l = 4 * members_depth (members_of l.members.now) + 3

abbrev pub decreases-named_fits : goal.decreases-named_fits
decreases-named_fits l = 4 * members_depth (members_of l.members.now) + 2

abbrev pub decreases-entries_fit : goal.decreases-entries_fit
decreases-entries_fit l = 4 * members_depth (members_of l.members.now) + 1

abbrev pub decreases-fields_fit : goal.decreases-fields_fit
decreases-fields_fit l = 4 * members_depth (members_of l.members.now) + 1

abbrev pub invariant-items_fit-loop-tree : goal.invariant-items_fit-loop-tree
invariant-items_fit-loop-tree l = of_trees (items_fit l.types (shape_of l.of)) l.trees ≡ of_trees (items_fit l.types (shape_of l.of)) (drop l.tree-index l.trees)

abbrev pub invariant-entries_fit-loop-name : goal.invariant-entries_fit-loop-name
invariant-entries_fit-loop-name l =
    of_pairs (members_fit l.types (type_of_entry l.types (key_of l.key) l.of-2)) l.pairs ≡ of_pairs (members_fit l.types (type_of_entry l.types (key_of l.key) l.of-2)) (drop l.name-index l.pairs)

abbrev pub invariant-fields_fit-loop-name : goal.invariant-fields_fit-loop-name
invariant-fields_fit-loop-name l =
    of_pairs (members_fit l.types (type_of_field l.fields)) l.pairs ≡ of_pairs (members_fit l.types (type_of_field l.fields)) (drop l.name-index l.pairs)
