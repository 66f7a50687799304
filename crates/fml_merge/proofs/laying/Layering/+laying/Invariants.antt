use Rattle.std.proofs.Common.{◌≡◌, ◌+◌, ◌*◌, ◌-◌, ◌≤◌, ◌++◌, Bor, length, map, option_map, take, drop}
use Rattle.json_tree.specs.Json.{depth, items_depth, members_depth, members_of}
use Rattle.json_tree.specs.Json as json
use Rattle.json_tree.specs.Tree.{json_of, member_of}
use Rattle.json_tree.specs.declared.tree.Tree.{Tree}
use Rattle.fml_types.specs.Named.{AreRising}
use Rattle.fml_types.specs.Shape.{height}
use Rattle.fml_types.specs.Shapes.{shape_of}
use Rattle.fml_merge.specs.Overlay.{laid, members_laid}
use Rattle.fml_merge.specs.Zero.{zero_within, initial, with_default}
use Rattle.fml_merge.specs.Merging.{types_of, merged_in, left_in}
use Rattle.fml_merge.specs.Laying.{zeros, trees_of, layers_of}
use Rattle.fml_merge.specs.Layers.{piece_of, depth_of, AreClimbing, trees_depth, layers_depth, objects_depth}
use Rattle.fml_merge.specs.Highest.{highest, highest_type, member_height, zero_levels}
use Rattle.fml_merge.proofs.Measures.{step, field_weight, fields_weight, level, greater}
use Rattle.fml_merge.proofs.Fields.{each_laid}
use Rattle.fml_merge.proofs.laying.Layering.+laying.Given as goal

abbrev pub decreases-lay : goal.decreases-lay
decreases-lay l = greater (level l.self.types.now * l.self.levels) (level l.self.types.now * zero_levels l.base) + step l.self.types.now * depth (json_of l.tree.now) + 8 * height (shape_of l.of.now) + 8

abbrev pub decreases-lay_over_zero : goal.decreases-lay_over_zero
decreases-lay_over_zero l = level l.self.types.now * l.self.levels + step l.self.types.now * depth (json_of l.tree.now) + 8 * height (shape_of l.of.now) + 6

abbrev pub decreases-lay_inside : goal.decreases-lay_inside
decreases-lay_inside l = level l.self.types.now * l.self.levels + step l.self.types.now * depth (json_of l.tree.now) + 8 * height l.inner.now + 7

abbrev pub decreases-lay_items : goal.decreases-lay_items
decreases-lay_items l = level l.self.types.now * l.self.levels + step l.self.types.now * items_depth (json.items_of l.items.now) + 8 * height (shape_of l.of.now) + 8

abbrev pub decreases-lay_objects : goal.decreases-lay_objects
decreases-lay_objects l = greater (level l.self.types.now * l.self.levels) (level l.self.types.now * zero_levels l.base) + step l.self.types.now * objects_depth (layers_of l.layers.now) + 8 * height (shape_of l.of.now) + 7

abbrev pub decreases-lay_over_base : goal.decreases-lay_over_base
decreases-lay_over_base l = greater (level l.self.types.now * l.self.levels) (level l.self.types.now * zero_levels l.base) + step l.self.types.now * layers_depth (layers_of l.layers.now) + 8 * height (shape_of l.of.now) + 8 * highest l.self.types.now + 17

abbrev pub decreases-lay_over_zero_fields : goal.decreases-lay_over_zero_fields
decreases-lay_over_zero_fields l = greater (level l.self.types.now * l.self.levels) (level l.self.types.now * l.zero_levels) + step l.self.types.now * members_depth (members_of l.members.now) + 8 * height (shape_of l.of.now) + 8 * highest l.self.types.now + 16

abbrev pub decreases-lay_fields : goal.decreases-lay_fields
decreases-lay_fields l = greater (level l.self.types.now * l.self.levels) (level l.self.types.now * l.field_levels + fields_weight l.self.types.now l.fields.now + 3) + step l.self.types.now * members_depth (members_of l.members.now) + 8 * highest_type l.fields.now + 12

abbrev pub decreases-lay_field : goal.decreases-lay_field
decreases-lay_field l = greater (level l.self.types.now * l.self.levels) (level l.self.types.now * l.field_levels + field_weight l.self.types.now l.field.now + 3) + step l.self.types.now * depth_of (option_map (λ (t : Bor Tree). json_of t.now) l.tree) + 8 * height (shape_of l.field.now.field_type) + 11

abbrev pub decreases-field_base : goal.decreases-field_base
decreases-field_base l = level l.self.types.now * l.field_levels + field_weight l.self.types.now l.field.now + 2

abbrev pub decreases-lay_layers : goal.decreases-lay_layers
decreases-lay_layers l = level l.self.types.now * l.self.levels + step l.self.types.now * layers_depth (layers_of l.layers.now) + 8 * member_height l.member_types + 15

abbrev pub decreases-lay_members : goal.decreases-lay_members
decreases-lay_members l = level l.self.types.now * l.self.levels + step l.self.types.now * members_depth (members_of l.members.now) + 8 * member_height l.member_types + 14

abbrev pub decreases-lay_in_place : goal.decreases-lay_in_place
decreases-lay_in_place l = level l.self.types.now * l.self.levels + step l.self.types.now * members_depth (members_of l.members.now) + 8 * member_height l.member_types + 10

abbrev pub decreases-lay_named : goal.decreases-lay_named
decreases-lay_named l = level l.self.types.now * l.self.levels + step l.self.types.now * depth (json_of l.tree.now) + 8 * member_height l.member_types + 9

abbrev pub decreases-merge_layers : goal.decreases-merge_layers
decreases-merge_layers l = level l.self.types.now * l.self.levels + step l.self.types.now * layers_depth (layers_of l.layers.now) + 8 * member_height l.member_types + 13

abbrev pub decreases-merge_pieces : goal.decreases-merge_pieces
decreases-merge_pieces l = level l.self.types.now * l.self.levels + step l.self.types.now * members_depth (members_of (map piece_of l.pieces.now)) + 8 * member_height l.member_types + 12

abbrev pub decreases-merge_run : goal.decreases-merge_run
decreases-merge_run l = level l.self.types.now * l.self.levels + step l.self.types.now * trees_depth (trees_of l.pieces.now) + 8 * member_height l.member_types + 11

abbrev pub decreases-lay_run : goal.decreases-lay_run
decreases-lay_run l = level l.self.types.now * l.self.levels + step l.self.types.now * trees_depth (trees_of l.pieces.now) + 8 * member_height l.member_types + 10

abbrev pub decreases-lay_trees : goal.decreases-lay_trees
decreases-lay_trees l = greater (level l.self.types.now * l.self.levels) (level l.self.types.now * zero_levels l.base) + step l.self.types.now * trees_depth (trees_of l.pieces.now) + 8 * height (shape_of l.of.now) + 9

abbrev pub decreases-lay_counted : goal.decreases-lay_counted
decreases-lay_counted l = greater (level l.self.types.now * l.self.levels) (level l.self.types.now * zero_levels l.base) + step l.self.types.now * greater (depth_of (option_map (λ (t : Bor Tree). json_of t.now) l.replacing)) (objects_depth (layers_of l.objects.now)) + 8 * height (shape_of l.of.now) + 8

abbrev pub decreases-made : goal.decreases-made
decreases-made l = level l.self.types.now * zero_levels l.base + 4

abbrev pub decreases-zero : goal.decreases-zero
decreases-zero l = level l.self.types.now * l.self.levels + 3

abbrev pub decreases-object_zero : goal.decreases-object_zero
decreases-object_zero l = level l.self.types.now * l.self.levels + 2

abbrev pub decreases-initial : goal.decreases-initial
decreases-initial l = level l.self.types.now * l.self.levels + fields_weight l.self.types.now l.fields.now + 1

abbrev pub decreases-with_default : goal.decreases-with_default
decreases-with_default l = level l.self.types.now * l.self.levels + field_weight l.self.types.now l.field.now

abbrev pub invariant-lay_items-loop-tree : goal.invariant-lay_items-loop-tree
invariant-lay_items-loop-tree l = l.values ≡ map (λ u. laid (zeros l.self) l.self.types.now (shape_of l.of) (zeros l.self (shape_of l.of)) (json_of u)) (take l.tree-index l.trees)

abbrev pub invariant-lay_in_place-loop-name : goal.invariant-lay_in_place-loop-name
invariant-lay_in_place-loop-name l =
    members_laid (zeros l.self) l.self.types.now (types_of l.self.types.now l.member_types) l.entries (members_of (map member_of (drop l.name-index l.pairs)))
    ≡ members_laid (zeros l.self) l.self.types.now (types_of l.self.types.now l.member_types) l.fn.base (members_of (map member_of l.pairs))

abbrev pub invariant-merge_pieces-loop-start : goal.invariant-merge_pieces-loop-start
invariant-merge_pieces-loop-start l = record {
  same : merged_in l.merge ++ members_laid (zeros l.self) l.self.types.now (types_of l.self.types.now l.member_types) (left_in l.merge) (members_of (map piece_of (drop l.start l.pieces)))
      ≡ merged_in l.fn.merge ++ members_laid (zeros l.self) l.self.types.now (types_of l.self.types.now l.member_types) (left_in l.fn.merge) (members_of (map piece_of l.pieces));
  rising : AreRising (left_in l.merge);
  within : l.start ≤ length l.pieces;
  climbing : AreClimbing (map piece_of (drop l.start l.pieces));
  depth : members_depth (members_of (map piece_of (drop l.start l.pieces))) ≤ members_depth (members_of (map piece_of l.pieces));
}

abbrev pub decreases-merge_pieces-loop-start : goal.decreases-merge_pieces-loop-start
decreases-merge_pieces-loop-start l = length l.pieces - l.start

abbrev pub invariant-initial-loop-name : goal.invariant-initial-loop-name
invariant-initial-loop-name l = l.entries ≡ initial (zeros l.self) l.self.types.now (take l.name-index l.pairs)

abbrev pub invariant-lay_fields-loop-name : goal.invariant-lay_fields-loop-name
invariant-lay_fields-loop-name l = l.entries ≡ each_laid (zeros l.self) l.self.types.now (λ f. with_default (zero_within l.self.types.now l.field_levels) l.self.types.now (shape_of f.1.field_type) f.1.default) (members_of l.members) (take l.name-index l.pairs)
