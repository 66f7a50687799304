use Rattle.std.proofs.Common.{◌≡◌, ◌+◌, ◌≤◌, length, vec_capacity}
use Rattle.row_batches.specs.Rows.{AreRows, after_changes}
use Rattle.row_batches.specs.Trees.{rows_in}
use Rattle.row_batches.proofs.tree_changes.take_changes.Given as goal

abbrev pub invariant-loop-change : goal.invariant-loop-change
invariant-loop-change l = record {
  same : after_changes l.change-iterator.rest.items (rows_in l.tree) ≡ after_changes l.fn.changes (rows_in l.fn.tree);
  rise : AreRows (rows_in l.tree);
  enough : length l.change-iterator.rest.items ≤ length l.spare.items;
  count : length (rows_in l.tree) + length l.spare.items ≡ length (rows_in l.fn.tree) + length l.fn.spare.items;
  same_room : vec_capacity l.spare ≡ vec_capacity l.fn.spare;
}
