-- The items and the members, each written behind those before it.
use Rattle.std.proofs.Common.{ap, arith}
use Rattle.std.proofs.lemmas.Result.{on_ok_weaker}
use Rattle.json.specs.Tree.{items_tokens, members_tokens}
use Rattle.serde_json.specs.Written.{items_outline, members_outline}
use Rattle.json_tree.specs.Json.{items_of, members_of}
use Rattle.json_tree.specs.Tree.{json_of}
use Rattle.json_tree.specs.Bytes.{to_items, to_members}
use Rattle.json_tree.proofs.Depths.{depth_within, member_depth_within}
use Rattle.json_tree.proofs.Tokens.{items_written, members_written}
use Rattle.json_tree.proofs.writing.+write_tree.Goals as goal

pub write_items-write_tree-requires : goal.write_items-write_tree-requires
write_items-write_tree-requires t c =
    let h = c.decreases in (omega (arith, depth_within json_of _ _ _ _ c.as_slice-trees.ensures.items c.loop-tree-test.true c.tree-item.is), tt)

pub write_items-returns-clause-tokens : goal.write_items-returns-clause-tokens
write_items-returns-clause-tokens t c =
    let trees = c.as_slice-trees.result.now in
    let same = ap (λ xs. items_tokens (items_outline (to_items (items_of xs)))) c.as_slice-trees.ensures.items in
    on_ok_weaker c.end_array.result
    (λ closed. items_written json_of trees c.loop-tree.tree-index _ _ _ _ _ c.loop-tree-test.false c.in_ok-begin_array.ensures.ok c.loop-tree.invariant.tokens closed same)
    c.end_array.ensures.ok

pub write_members-write_tree-requires : goal.write_members-write_tree-requires
write_members-write_tree-requires t c =
    let h = c.decreases in (omega (arith, member_depth_within json_of _ _ _ _ c.as_slice-pairs.ensures.members c.loop-key-test.true c.loop-key-item.is), tt)

pub write_members-returns-clause-tokens : goal.write_members-returns-clause-tokens
write_members-returns-clause-tokens t c =
    let pairs = c.as_slice-pairs.result.now in
    let same = ap (λ ms. members_tokens (members_outline (to_members (members_of ms)))) c.as_slice-pairs.ensures.members in
    on_ok_weaker c.end_object.result
    (λ closed. members_written pairs c.loop-key.key-index _ _ _ _ _ c.loop-key-test.false c.in_ok-begin_object.ensures.ok c.loop-key.invariant.tokens closed same)
    c.end_object.ensures.ok
