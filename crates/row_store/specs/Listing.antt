-- The rows of an ordered map.
use Rattle.std.specs.Prelude.{ℕ, List, map, Vec}
use Rattle.row_batches.specs.declared.store_row.StoreRow.{StoreRow}

abbrev pub row_of : {Z : Type 0} → Vec ℕ Z × List ℕ → StoreRow
row_of e = record { key = e.0.items; value = e.1 }

-- its entries, each as a row
abbrev pub rows_in : {Z : Type 0} → List (Vec ℕ Z × List ℕ) → List StoreRow
rows_in entries = map row_of entries
