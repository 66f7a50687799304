-- The parts of lists and objects.
use Rattle.std.proofs.Common.{◌≡◌, ◌<◌, ◌≤◌, ◌+◌, ℕ, zero, suc, List, false, length, get_or, map, take, sym, ap, ◌∙◌, arith}
use Rattle.std.specs.Prelude.{◌==◌}
use Rattle.std.specs.List.{sum_by}
use Rattle.std.proofs.lemmas.List.{take_all}
use Rattle.json_tree.specs.Json.{Json, text, list, object, items_of, members_of}
use Rattle.json_tree.specs.Tree.{json_of, member_of}
use Rattle.json_tree.specs.Bytes.{text_of}
use Rattle.json_tree.specs.declared.tree.Tree.{Tree}
use Rattle.json_tree.proofs.Depths.{depth_within, member_depth_within}
use Rattle.json_length.proofs.Lengths.{tree_item, tree_member, length-items, length-pairs, sum_within, length-odd}
use Rattle.json_length.proofs.trees.+left_after.Goals as goal

nonzero : (n : ℕ) → (n == 0) ≡ false → 0 < n
nonzero zero e = absurd cc
nonzero (suc n) e = omega arith

-- ---- lists

list_total : (trees : List Tree) (xs : List Json) → map json_of trees ≡ xs → 0 < length trees → length (text_of (list (items_of xs))) ≡ 1 + sum_by tree_item trees
list_total trees xs same some = sym (ap (λ ys. length (text_of (list (items_of ys)))) same) ∙ length-items json_of trees some

-- what comes before an item and the item itself are within the text
list_part : (trees : List Tree) (xs : List Json) (i : ℕ) (x : Tree) → map json_of trees ≡ xs → i < length trees → x ≡ get_or trees i x
    → 1 + sum_by tree_item (take i trees) + tree_item x ≤ length (text_of (list (items_of xs)))
list_part trees xs i x same within here = omega (arith, list_total trees xs same (omega arith), sum_within tree_item trees i x within here)

pub left_after_items-returns-in_err-left-2-clause-none : goal.left_after_items-returns-in_err-left-2-clause-none
left_after_items-returns-in_err-left-2-clause-none t c =
    let part = list_part c.as_slice-trees.result.now c.args.items.now c.loop-tree.tree-index c.tree-item.result c.as_slice-trees.ensures.items c.loop-tree-test.true c.tree-item.is in
    rw c.from_residual-in_err-left-2.ensures (omega (arith, part, c.loop-tree.invariant, c.in_err-left-2.ensures))

pub left_after_items-left_after-requires : goal.left_after_items-left_after-requires
left_after_items-left_after-requires t c =
    let h = c.decreases in (omega (arith, depth_within json_of _ _ _ _ c.as_slice-trees.ensures.items c.loop-tree-test.true c.tree-item.is), tt)

pub left_after_items-returns-in_err-left-3-clause-none : goal.left_after_items-returns-in_err-left-3-clause-none
left_after_items-returns-in_err-left-3-clause-none t c =
    let part = list_part c.as_slice-trees.result.now c.args.items.now c.loop-tree.tree-index c.tree-item.result c.as_slice-trees.ensures.items c.loop-tree-test.true c.tree-item.is in
    rw c.from_residual-in_err-left-3.ensures (omega (arith, part, c.loop-tree.invariant, c.in_ok-left-2.ensures, c.in_err-left-3.ensures.none))

pub left_after_items-returns-clause-some : goal.left_after_items-returns-clause-some
left_after_items-returns-clause-some t c =
    let trees = c.as_slice-trees.result.now in
    let total = list_total trees c.args.items.now c.as_slice-trees.ensures.items (nonzero (length trees) (sym c.is_empty.ensures ∙ c.if-is_empty.false)) in
    let all = ap (λ ts. sum_by tree_item ts) (take_all c.loop-tree.tree-index trees c.loop-tree-test.false) in
    omega (arith, total, all, c.loop-tree.invariant)

-- ---- objects

object_total : (pairs : List (List ℕ × Tree)) (ms : List (List ℕ × Json)) → map member_of pairs ≡ ms → 0 < length pairs → length (text_of (object (members_of ms))) ≡ 1 + sum_by tree_member pairs
object_total pairs ms same some = sym (ap (λ ns. length (text_of (object (members_of ns)))) same) ∙ length-pairs pairs some

object_part : (pairs : List (List ℕ × Tree)) (ms : List (List ℕ × Json)) (i : ℕ) (m : List ℕ × Tree) → map member_of pairs ≡ ms → i < length pairs → m ≡ get_or pairs i m
    → 1 + sum_by tree_member (take i pairs) + tree_member m ≤ length (text_of (object (members_of ms)))
object_part pairs ms i m same within here = omega (arith, object_total pairs ms same (omega arith), sum_within tree_member pairs i m within here)

pub left_after_members-returns-in_err-left-2-clause-none : goal.left_after_members-returns-in_err-left-2-clause-none
left_after_members-returns-in_err-left-2-clause-none t c =
    let part = object_part c.as_slice-pairs.result.now c.args.members.now c.loop-key.key-index c.loop-key-item.result c.as_slice-pairs.ensures.members c.loop-key-test.true c.loop-key-item.is in
    rw c.from_residual-in_err-left-2.ensures (omega (arith, part, c.loop-key.invariant, c.in_err-left-2.ensures))

pub left_after_members-returns-in_err-left-3-clause-none : goal.left_after_members-returns-in_err-left-3-clause-none
left_after_members-returns-in_err-left-3-clause-none t c =
    let m = c.loop-key-item.result in
    let part = object_part c.as_slice-pairs.result.now c.args.members.now c.loop-key.key-index m c.as_slice-pairs.ensures.members c.loop-key-test.true c.loop-key-item.is in
    let key : c.text_length.result ≡ length (text_of (text m.0)) = c.text_length.ensures.length ∙ ap (λ s. length (text_of (text s))) c.as_str.ensures.text in
    rw c.from_residual-in_err-left-3.ensures (omega (arith, part, key, c.loop-key.invariant, c.in_ok-left-2.ensures, c.in_err-left-3.ensures))

pub left_after_members-left_after-requires : goal.left_after_members-left_after-requires
left_after_members-left_after-requires t c =
    let h = c.decreases in (omega (arith, member_depth_within json_of _ _ _ _ c.as_slice-pairs.ensures.members c.loop-key-test.true c.loop-key-item.is), tt)

pub left_after_members-returns-in_err-left-4-clause-none : goal.left_after_members-returns-in_err-left-4-clause-none
left_after_members-returns-in_err-left-4-clause-none t c =
    let m = c.loop-key-item.result in
    let part = object_part c.as_slice-pairs.result.now c.args.members.now c.loop-key.key-index m c.as_slice-pairs.ensures.members c.loop-key-test.true c.loop-key-item.is in
    let key : c.text_length.result ≡ length (text_of (text m.0)) = c.text_length.ensures.length ∙ ap (λ s. length (text_of (text s))) c.as_str.ensures.text in
    let value : c.in_ok-left-3.left < length (text_of (json_of m.1)) = c.in_err-left-4.ensures.none in
    rw c.from_residual-in_err-left-4.ensures (omega (arith, part, key, value, c.loop-key.invariant, c.in_ok-left-2.ensures, c.in_ok-left-3.ensures))

pub left_after_members-returns-clause-some : goal.left_after_members-returns-clause-some
left_after_members-returns-clause-some t c =
    let pairs = c.as_slice-pairs.result.now in
    let total = object_total pairs c.args.members.now c.as_slice-pairs.ensures.members (nonzero (length pairs) (sym c.is_empty.ensures ∙ c.if-is_empty.false)) in
    let all = ap (λ ms. sum_by tree_member ms) (take_all c.loop-key.key-index pairs c.loop-key-test.false) in
    omega (arith, total, all, c.loop-key.invariant)

-- ---- the number that stands for each that is no `i64`

odd_long : (u : Tree) → u ≡ Tree.Odd → length (text_of (json_of u)) ≡ 20
odd_long u is = ap (λ v. length (text_of (json_of v))) is ∙ length-odd

pub left_after-returns-in-Odd-clause-some : goal.left_after-returns-in-Odd-clause-some
left_after-returns-in-Odd-clause-some t c = grind (arith, odd_long c.args.tree.now c.in-Odd.is, c.checked_sub-in-Odd.ensures)

pub left_after-returns-in-Odd-clause-none : goal.left_after-returns-in-Odd-clause-none
left_after-returns-in-Odd-clause-none t c = grind (arith, odd_long c.args.tree.now c.in-Odd.is, c.checked_sub-in-Odd.ensures)
