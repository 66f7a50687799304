use Rattle.std.proofs.Common.{refl, sym, ap, ◌∙◌}
use Rattle.fml_types.specs.Shapes.{shape_of}
use Rattle.json_tree.specs.Json.{items_of}
use Rattle.json_tree.specs.Tree.{json_of}
use Rattle.fml_value.specs.Takes.{takes, all_items, is_list_of}
use Rattle.fml_value.proofs.Walking.{tree_refused, tree_passed, trees_end}
use Rattle.fml_value.proofs.taking.+takes.Goals as goal

pub takes_list-loop-tree-init : goal.takes_list-loop-tree-init
takes_list-loop-tree-init t c = refl

pub takes_list-returns-then-not-takes : goal.takes_list-returns-then-not-takes
takes_list-returns-then-not-takes t c =
    let p = takes c.args.types.now (shape_of c.get-of.result.now) in
    tree_refused (all_items p) p (λ x xs. refl) c.as_slice-trees.result.now c.in-List.items c.loop-tree.tree-index c.tree-item.result c.as_slice-trees.ensures.items c.loop-tree-test.true c.tree-item.is c.loop-tree.invariant (sym c.takes.ensures ∙ c.if-not-takes.true)
    ∙ ap (λ s. all_items (takes c.args.types.now s) (items_of c.in-List.items)) c.get-of.ensures
    ∙ sym (ap (λ u. is_list_of (takes c.args.types.now c.args.of.now) (json_of u)) c.in-List.is)

pub takes_list-loop-tree-preserved : goal.takes_list-loop-tree-preserved
takes_list-loop-tree-preserved t c =
    let p = takes c.args.types.now (shape_of c.get-of.result.now) in
    tree_passed (all_items p) p (λ x xs. refl) c.as_slice-trees.result.now c.loop-tree.tree-index c.tree-item.result c.loop-tree-test.true c.tree-item.is c.loop-tree.invariant (sym c.takes.ensures ∙ c.if-not-takes.false)

pub takes_list-returns : goal.takes_list-returns
takes_list-returns t c =
    let p = takes c.args.types.now (shape_of c.get-of.result.now) in
    trees_end (all_items p) p (λ x xs. refl) c.as_slice-trees.result.now c.in-List.items c.loop-tree.tree-index c.as_slice-trees.ensures.items c.loop-tree-test.false c.loop-tree.invariant refl
    ∙ ap (λ s. all_items (takes c.args.types.now s) (items_of c.in-List.items)) c.get-of.ensures
    ∙ sym (ap (λ u. is_list_of (takes c.args.types.now c.args.of.now) (json_of u)) c.in-List.is)
