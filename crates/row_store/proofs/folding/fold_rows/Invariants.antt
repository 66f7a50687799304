use Rattle.std.proofs.Common.{List, [], drop}
use Rattle.row_batches.specs.Rows.{AreRows}
use Rattle.row_batches.specs.declared.store_row.StoreRow.{StoreRow}
use Rattle.row_store.specs.Folding.{Fold}
use Rattle.row_store.specs.Listing.{rows_in}
use Rattle.row_store.proofs.folding.fold_rows.Given as goal

abbrev pub invariant-loop-place : goal.invariant-loop-place
invariant-loop-place l = record {
  on : (rows : List StoreRow) → Fold (drop l.place l.fn.payloads) (rows_in l.tree.entries) rows → Fold l.fn.payloads [] rows;
  back : (rows : List StoreRow) → Fold l.fn.payloads [] rows → Fold (drop l.place l.fn.payloads) (rows_in l.tree.entries) rows;
  rise : AreRows (rows_in l.tree.entries);
}
