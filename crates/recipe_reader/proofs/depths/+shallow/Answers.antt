use Rattle.std.proofs.Common.{◌≤◌, subst, arith, add-one}
use Rattle.std.proofs.lemmas.Grind.{common_steps}
use Rattle.json_tree.specs.Json.{depth}
use Rattle.json_tree.specs.Tree.{json_of}
use Rattle.json_tree.proofs.Depths.{depth_within, member_depth_within}
use Rattle.recipe_reader.proofs.Deeper.{items_more, members_more}
use Rattle.recipe_reader.proofs.depths.+shallow.Goals as goal

pub are_items_shallow-returns-then-not-is_shallow :
    goal.are_items_shallow-returns-then-not-is_shallow
are_items_shallow-returns-then-not-is_shallow t c =
    let within = depth_within json_of _ _ _ _ c.as_slice-trees.ensures.items c.loop-tree-test.true c.tree-item.is in
    grind (arith, common_steps, within)

pub are_items_shallow-loop-tree-preserved : goal.are_items_shallow-loop-tree-preserved
are_items_shallow-loop-tree-preserved t c =
    let trees = c.as_slice-trees.result.now in
    let x = c.tree-item.result in
    let one : depth (json_of x) ≤ c.args.most = grind (arith, common_steps) in
    rw add-one (items_more trees c.loop-tree.tree-index c.args.most x c.loop-tree-test.true c.loop-tree.invariant (subst (λ y. depth (json_of y) ≤ c.args.most) c.tree-item.is one))

pub are_members_shallow-returns-then-not-is_shallow :
    goal.are_members_shallow-returns-then-not-is_shallow
are_members_shallow-returns-then-not-is_shallow t c =
    let within = member_depth_within json_of _ _ _ _ c.as_slice-pairs.ensures.members c.loop-tree-test.true c.loop-tree-item.is in
    grind (arith, common_steps, within)

pub are_members_shallow-loop-tree-preserved : goal.are_members_shallow-loop-tree-preserved
are_members_shallow-loop-tree-preserved t c =
    let pairs = c.as_slice-pairs.result.now in
    let m = c.loop-tree-item.result in
    let one : depth (json_of m.1) ≤ c.args.most = grind (arith, common_steps) in
    rw add-one (members_more pairs c.loop-tree.tree-index c.args.most m c.loop-tree-test.true c.loop-tree.invariant (subst (λ y. depth (json_of y.1) ≤ c.args.most) c.loop-tree-item.is one))
