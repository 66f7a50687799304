use Rattle.std.proofs.Common.{◌+◌, ap, ◌∙◌, arith}
use Rattle.json_tree.specs.Tree.{json_of}
use Rattle.json_tree.proofs.Depths.{depth_within, member_depth_within}
use Rattle.fml_types.specs.Capped.{cap}
use Rattle.fml_types.proofs.Counting.{one_more_item, one_more_member}
use Rattle.fml_types.proofs.graph.+objects_in.Goals as goal

pub objects_in_items-objects_in-requires : goal.objects_in_items-objects_in-requires
objects_in_items-objects_in-requires t c =
    (omega (arith, depth_within json_of _ _ _ _ c.as_slice-trees.ensures.items c.loop-tree-test.true c.tree-item.is), tt)

pub objects_in_items-loop-tree-preserved : goal.objects_in_items-loop-tree-preserved
objects_in_items-loop-tree-preserved t c =
    one_more_item c.as_slice-trees.result.now c.loop-tree.tree-index c.tree-item.result c.loop-tree.count c.capped_sum-count.result c.loop-tree-test.true c.tree-item.is c.loop-tree.invariant
    (c.capped_sum-count.ensures ∙ ap (λ n. cap (c.loop-tree.count + n)) c.objects_in.ensures)

pub objects_in_members-objects_in-requires : goal.objects_in_members-objects_in-requires
objects_in_members-objects_in-requires t c =
    (omega (arith, member_depth_within json_of _ _ _ _ c.as_slice-pairs.ensures.members c.loop-tree-test.true c.loop-tree-item.is), tt)

pub objects_in_members-loop-tree-preserved : goal.objects_in_members-loop-tree-preserved
objects_in_members-loop-tree-preserved t c =
    one_more_member c.as_slice-pairs.result.now c.loop-tree.tree-index c.loop-tree-item.result c.loop-tree.count c.capped_sum-count.result c.loop-tree-test.true c.loop-tree-item.is c.loop-tree.invariant
    (c.capped_sum-count.ensures ∙ ap (λ n. cap (c.loop-tree.count + n)) c.objects_in.ensures)
