use Rattle.std.proofs.Common.{◌≡◌}
use Rattle.row_batches.specs.Rows.{AreRows, after_changes}
use Rattle.row_store.specs.Listing.{rows_in}
use Rattle.row_store.proofs.folding.take_changes.Given as goal

abbrev pub invariant-loop-change : goal.invariant-loop-change
invariant-loop-change l = record {
  same : after_changes l.change-iterator.rest.items (rows_in l.tree.entries) ≡ after_changes l.fn.changes (rows_in l.fn.tree.entries);
  rise : AreRows (rows_in l.tree.entries);
}
