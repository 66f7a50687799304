use Rattle.std.proofs.Common.{map, take, take_all, sym, ap, ◌∙◌, subst, arith}
use Rattle.json_tree.specs.Json.{items_of, members_of, IsAbove, AreSoundMembers}
use Rattle.json_tree.specs.Tree.{json_of}
use Rattle.json_tree.proofs.Pairs.{IsAbove-at}
use Rattle.json_tree.proofs.Depths.{depth_within, member_depth_within}
use Rattle.jexl_value.specs.Meaning.{items_without_odd, members_without_odd}
use Rattle.jexl_value.proofs.OfTree.{value_json, member_value, items_without_odd-map, members_without_odd-map, IsAbove-values}
use Rattle.jexl_value.proofs.converting.+value_of.Goals as goal

pub list_of-value_of-requires : goal.list_of-value_of-requires
list_of-value_of-requires t c =
    (omega (arith, depth_within json_of _ _ _ _ c.as_slice-trees.ensures.items c.loop-tree-test.true c.tree-item.is), tt)

pub list_of-returns : goal.list_of-returns
list_of-returns t c =
    let trees = c.as_slice-trees.result.now in
    ap items_of (c.loop-tree.invariant ∙ ap (map value_json) (take_all _ trees c.loop-tree-test.false)) ∙ items_without_odd-map trees ∙ ap (λ xs. items_without_odd (items_of xs)) c.as_slice-trees.ensures.items

pub object_of-value_of-requires : goal.object_of-value_of-requires
object_of-value_of-requires t c =
    (omega (arith, member_depth_within json_of _ _ _ _ c.as_slice-pairs.ensures.members c.loop-name-test.true c.loop-name-item.is), tt)

pub object_of-push-requires : goal.object_of-push-requires
object_of-push-requires t c =
    let pairs = c.as_slice-pairs.result.now in
    let m = c.loop-name-item.result in
    let place = c.loop-name.name-index in
    let sound = subst (λ ms. AreSoundMembers (members_of ms)) (sym c.as_slice-pairs.ensures.members) c.as_slice-pairs.ensures.sound in
    let above = IsAbove-values m.0 (take place pairs) (IsAbove-at pairs place m c.loop-name-test.true c.loop-name-item.is sound) in
    subst (λ ms. IsAbove c.in_ok-clone.field-0 ms) (sym c.loop-name.invariant) (subst (λ k. IsAbove k (map member_value (take place pairs))) (sym c.in_ok-clone.ensures.cases) above)

pub object_of-returns : goal.object_of-returns
object_of-returns t c =
    let pairs = c.as_slice-pairs.result.now in
    ap members_of (c.loop-name.invariant ∙ ap (map member_value) (take_all _ pairs c.loop-name-test.false)) ∙ members_without_odd-map pairs ∙ ap (λ ms. members_without_odd (members_of ms)) c.as_slice-pairs.ensures.members
