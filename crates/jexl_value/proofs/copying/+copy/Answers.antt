use Rattle.std.proofs.Common.{arith}
use Rattle.jexl_value.specs.Value.{as_json}
use Rattle.jexl_value.proofs.Growing.{IsRising-named}
use Rattle.json_tree.proofs.Pairs.{IsAbove-copy}
use Rattle.json_tree.proofs.Depths.{depth_within, member_depth_within}
use Rattle.jexl_value.proofs.copying.+copy.Goals as goal

pub copy_items-copy-requires : goal.copy_items-copy-requires
copy_items-copy-requires t c =
    (omega (arith, depth_within as_json _ _ _ _ c.as_slice-values.ensures.items c.loop-value-test.true c.value-item.is), tt)

pub copy_members-copy-requires : goal.copy_members-copy-requires
copy_members-copy-requires t c =
    (omega (arith, member_depth_within as_json _ _ _ _ c.as_slice-pairs.ensures.pairs c.loop-name-test.true c.loop-name-item.is), tt)

pub copy_members-push-requires : goal.copy_members-push-requires
copy_members-push-requires t c =
    IsAbove-copy as_json _ _ _ _ _ _ c.as_slice-pairs.ensures.pairs (IsRising-named _ c.as_slice-pairs.ensures.sound) c.loop-name-test.true c.loop-name-item.is c.loop-name.invariant c.in_ok-clone.ensures.cases
