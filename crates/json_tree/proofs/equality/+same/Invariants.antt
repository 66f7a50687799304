use Rattle.std.proofs.Common.{◌≡◌, ◌+◌, ◌*◌, ◌≤◌, length}
use Rattle.json_tree.specs.Json.{depth, items_depth, members_depth, items_of, members_of}
use Rattle.json_tree.specs.Tree.{json_of}
use Rattle.json_tree.specs.Equal.{items_eq, members_eq}
use Rattle.json_tree.proofs.Pairwise.{values_eq, values_depth, pairs_eq, pairs_depth}
use Rattle.json_tree.proofs.equality.+same.Given as goal

abbrev pub decreases-same : goal.decreases-same
decreases-same l = 3 * depth (json_of l.left.now)

abbrev pub decreases-same_items : goal.decreases-same_items
decreases-same_items l = 3 * items_depth (items_of l.left.now) + 1

abbrev pub decreases-same_members : goal.decreases-same_members
decreases-same_members l = 3 * members_depth (members_of l.left.now) + 2

abbrev pub decreases-same_member : goal.decreases-same_member
decreases-same_member l = 3 * depth (json_of l.left.now.1) + 1

abbrev pub invariant-same_items-loop-one : goal.invariant-same_items-loop-one
invariant-same_items-loop-one l = record {
  long : length l.one-iterator.a.rest.now ≡ length l.one-iterator.b.rest.now;
  within : values_depth json_of l.one-iterator.a.rest.now ≤ items_depth (items_of l.fn.left);
  same : values_eq json_of l.one-iterator.a.rest.now l.one-iterator.b.rest.now ≡ items_eq (items_of l.fn.left) (items_of l.fn.right);
}

abbrev pub invariant-same_members-loop-one : goal.invariant-same_members-loop-one
invariant-same_members-loop-one l = record {
  long : length l.one-iterator.a.rest.now ≡ length l.one-iterator.b.rest.now;
  within : pairs_depth json_of l.one-iterator.a.rest.now ≤ members_depth (members_of l.fn.left);
  same : pairs_eq json_of l.one-iterator.a.rest.now l.one-iterator.b.rest.now ≡ members_eq (members_of l.fn.left) (members_of l.fn.right);
}
