use Rattle.std.proofs.Common.{arith}
use Rattle.jexl_value.specs.Value.{as_json}
use Rattle.jexl_value.proofs.Growing.{IsRising-named}
use Rattle.json_tree.proofs.Pairs.{IsAbove-copy}
use Rattle.json_tree.proofs.Depths.{depth_within, member_depth_within}
use Rattle.jexl_value.proofs.converting.+tree_of.Goals as goal

pub items_from-tree_of-requires : goal.items_from-tree_of-requires
items_from-tree_of-requires t c =
    (omega (arith, depth_within as_json _ _ _ _ c.as_slice-list.ensures.items c.loop-value-test.true c.value-item.is), tt)

pub members_from-tree_of-requires : goal.members_from-tree_of-requires
members_from-tree_of-requires t c =
    (omega (arith, member_depth_within as_json _ _ _ _ c.as_slice-pairs.ensures.pairs c.loop-name-test.true c.loop-name-item.is), tt)

pub members_from-push-requires : goal.members_from-push-requires
members_from-push-requires t c =
    IsAbove-copy as_json _ _ _ _ _ _ c.as_slice-pairs.ensures.pairs (IsRising-named _ c.as_slice-pairs.ensures.sound) c.loop-name-test.true c.loop-name-item.is c.loop-name.invariant c.in_ok-clone.ensures.cases
