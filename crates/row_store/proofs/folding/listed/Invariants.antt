use Rattle.std.proofs.Common.{◌≡◌, ◌++◌}
use Rattle.row_store.specs.Listing.{rows_in}
use Rattle.row_store.proofs.folding.listed.Given as goal

abbrev pub invariant-loop-key : goal.invariant-loop-key
invariant-loop-key l = record {
  same : l.rows.items ++ rows_in l.key-iterator ≡ rows_in l.fn.tree.entries;
}
