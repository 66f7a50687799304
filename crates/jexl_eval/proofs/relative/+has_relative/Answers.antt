use Rattle.std.proofs.Common.{◌≡◌, ℕ, ◌+◌, ◌<◌, ◌≤◌, Bool, true, false, ◌||◌, List, length, get_or, drop, sym, ap, ap₂, ◌∙◌}
use Rattle.std.proofs.lemmas.List.{drop_all}
use Rattle.jexl_parser.specs.declared.node.Node.{Node}
use Rattle.jexl_parser.specs.Tree as trees
use Rattle.jexl_parser.specs.Tree.{has_relative, any_relative, any_pair_relative}
use Rattle.jexl_parser.specs.View.{view, views, view_pairs}
use Rattle.jexl_parser.proofs.Views.{view_list, view_members, view_transform}
use Rattle.jexl_eval.proofs.Walking.{drop_next}
use Rattle.jexl_eval.proofs.relative.+has_relative.Goals as goal

any_here : (ns : List Node) (i : ℕ) (n : Node) → i < length ns → n ≡ get_or ns i n → true ≡ has_relative (view n) → true ≡ any_relative (views (drop i ns))
any_here ns i n h is e = ap (λ b. b || any_relative (views (drop (i + 1) ns))) e ∙ sym (ap (λ l. any_relative (views l)) (drop_next ns i n h is))

any_none : (ns : List Node) (i : ℕ) → length ns ≤ i → false ≡ any_relative (views (drop i ns))
any_none ns i h = sym (ap (λ l. any_relative (views l)) (drop_all i ns h))

pair_here : (ps : List (List ℕ × Node)) (i : ℕ) (p : List ℕ × Node) → i < length ps → p ≡ get_or ps i p → true ≡ has_relative (view p.1) → true ≡ any_pair_relative (view_pairs (drop i ps))
pair_here ps i p h is e = ap (λ b. b || any_pair_relative (view_pairs (drop (i + 1) ps))) e ∙ sym (ap (λ l. any_pair_relative (view_pairs l)) (drop_next ps i p h is))

pair_none : (ps : List (List ℕ × Node)) (i : ℕ) → length ps ≤ i → false ≡ any_pair_relative (view_pairs (drop i ps))
pair_none ps i h = sym (ap (λ l. any_pair_relative (view_pairs l)) (drop_all i ps h))

pub any_relative-returns-then-has_relative : goal.any_relative-returns-then-has_relative
any_relative-returns-then-has_relative t c =
    any_here c.args.nodes.now c.loop-node.node-index c.node-item.result c.loop-node-test.true c.node-item.is (sym c.if-has_relative.true ∙ c.has_relative.ensures) ∙ sym c.loop-node.invariant

pub any_relative-returns : goal.any_relative-returns
any_relative-returns t c = any_none c.args.nodes.now c.loop-node.node-index c.loop-node-test.false ∙ sym c.loop-node.invariant

pub any_pair_relative-returns-then-has_relative : goal.any_pair_relative-returns-then-has_relative
any_pair_relative-returns-then-has_relative t c =
    pair_here c.args.pairs.now c.loop-node.node-index c.loop-node-item.result c.loop-node-test.true c.loop-node-item.is (sym c.if-has_relative.true ∙ c.has_relative.ensures) ∙ sym c.loop-node.invariant

pub any_pair_relative-returns : goal.any_pair_relative-returns
any_pair_relative-returns t c = pair_none c.args.pairs.now c.loop-node.node-index c.loop-node-test.false ∙ sym c.loop-node.invariant

after : (b q : Bool) → b ≡ false → q ≡ (b || q)
after b q e = sym (ap (λ r. r || q) e)

pub has_relative-returns-in-List : goal.has_relative-returns-in-List
has_relative-returns-in-List t c =
    c.any_relative.ensures ∙ sym (ap has_relative (ap view c.in-List.is ∙ view_list c.in-List.nodes ∙ ap (λ ns. trees.Items (views ns)) (sym c.as_slice.ensures.value)))

pub has_relative-returns-in-Members : goal.has_relative-returns-in-Members
has_relative-returns-in-Members t c =
    c.any_pair_relative.ensures ∙ sym (ap has_relative (ap view c.in-Members.is ∙ view_members c.in-Members.pairs ∙ ap (λ ps. trees.Members (view_pairs ps)) (sym c.as_slice-in-Members.ensures.value)))

pub has_relative-returns-else-has_relative-2 : goal.has_relative-returns-else-has_relative-2
has_relative-returns-else-has_relative-2 t c =
    let nodes = c.as_slice-else-has_relative-2 in
    c.any_relative-else-has_relative-2.ensures
    ∙ after (has_relative (view c.deref-in-Transform.result.now)) (any_relative (views nodes.result.now)) (sym c.has_relative-in-Transform.ensures ∙ c.if-has_relative-2.false)
    ∙ sym (ap has_relative (ap view c.in-Transform.is ∙ view_transform c.in-Transform.subject c.in-Transform.field-1 c.in-Transform.arguments ∙ ap₂ (λ n ns. trees.Transform (view n) c.in-Transform.field-1 (views ns)) (sym c.deref-in-Transform.ensures) (sym nodes.ensures.value)))
