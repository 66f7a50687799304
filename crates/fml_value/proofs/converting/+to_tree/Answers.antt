use Rattle.std.proofs.Common.{map, take, take_all, sym, ap, ◌∙◌, subst, arith}
use Rattle.json_tree.specs.Json as json
use Rattle.fml_types.specs.Named.{AreRising}
use Rattle.fml_value.specs.Trees.{trees_of, members_of}
use Rattle.fml_value.specs.Typed.{items_of, entries_of}
use Rattle.fml_value.proofs.Heights.{height_within, entry_height_within}
use Rattle.fml_value.proofs.Ordered.{above_before}
use Rattle.fml_value.proofs.Trees.{value_tree, entry_tree, trees-of-values, members-of-entries, above-trees}
use Rattle.fml_value.proofs.converting.+to_tree.Goals as goal

pub items_from-to_tree-requires : goal.items_from-to_tree-requires
items_from-to_tree-requires t c =
    (omega (arith, height_within _ _ _ _ c.as_slice-list.ensures c.loop-value-test.true c.value-item.is), tt)

pub items_from-returns : goal.items_from-returns
items_from-returns t c =
    let list = c.as_slice-list.result.now in
    ap json.items_of (c.loop-value.invariant ∙ ap (map value_tree) (take_all _ list c.loop-value-test.false)) ∙ trees-of-values list ∙ ap (λ vs. trees_of (items_of vs)) c.as_slice-list.ensures

pub members_from-to_tree-requires : goal.members_from-to_tree-requires
members_from-to_tree-requires t c =
    (omega (arith, entry_height_within _ _ _ _ c.as_slice-pairs.ensures.pairs c.loop-name-test.true c.loop-name-item.is), tt)

pub members_from-push-requires : goal.members_from-push-requires
members_from-push-requires t c =
    let pairs = c.as_slice-pairs.result.now in
    let e = c.loop-name-item.result in
    let i = c.loop-name.name-index in
    let rising = subst AreRising (sym c.as_slice-pairs.ensures.pairs) c.as_slice-pairs.ensures.rising in
    let above = above-trees e.0 (take i pairs) (above_before pairs i e c.loop-name-test.true c.loop-name-item.is rising) in
    subst (λ ms. json.IsAbove c.in_ok-clone.field-0 ms) (sym c.loop-name.invariant) (subst (λ k. json.IsAbove k (map entry_tree (take i pairs))) (sym c.in_ok-clone.ensures.cases) above)

pub members_from-returns : goal.members_from-returns
members_from-returns t c =
    let pairs = c.as_slice-pairs.result.now in
    ap json.members_of (c.loop-name.invariant ∙ ap (map entry_tree) (take_all _ pairs c.loop-name-test.false)) ∙ members-of-entries pairs ∙ ap (λ es. members_of (entries_of es)) c.as_slice-pairs.ensures.pairs
