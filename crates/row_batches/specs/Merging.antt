-- One step of a walk over changes and the rows that they change.
use Rattle.std.specs.Prelude.{◌≡◌, ◌<◌, ◌+◌, List, [], ◌∷◌, ◌++◌, length, map}
use Rattle.row_batches.specs.declared.change.RowChange.{RowChange}
use Rattle.row_batches.specs.declared.merging.Merge.{Merge}
use Rattle.row_batches.specs.declared.merging.Merge.TheVariants as merge
use Rattle.row_batches.specs.declared.store_row.StoreRow.{StoreRow}
use Rattle.row_batches.specs.Places.{AreAbove}
use Rattle.row_batches.specs.Rows.{Rise, AreRows, key_in, key_of, after_changes}

-- the keys of both rise
pub record AreInOrder (changes : List RowChange) (rows : List StoreRow) : Type 0 where
  pub changes_rise : Rise (map key_in changes)
  pub rows_rise : AreRows rows

-- and a change comes before both
pub record ComesBefore (change : RowChange) (changes : List RowChange) (rows : List StoreRow) : Type 0 where
  pub order : AreInOrder changes rows
  pub changes_above : AreAbove (key_in change) (map key_in changes)
  pub rows_above : AreAbove (key_in change) (map key_of rows)

-- these rows come first after the changes, and then those of what is left, which is less
pub record IsMerged (first : List StoreRow) (changes_left : List RowChange) (rows_left : List StoreRow) (changes : List RowChange) (rows : List StoreRow) : Type 0 where
  pub split : after_changes changes rows ≡ first ++ after_changes changes_left rows_left
  pub fewer : length changes_left + length rows_left < length changes + length rows
  pub order : AreInOrder changes_left rows_left

abbrev pub IsMerge : List RowChange → List StoreRow → Merge → Type 0
IsMerge changes rows merge.End = after_changes changes rows ≡ []
IsMerge changes rows (merge.Row row changes_left rows_left) = IsMerged (row.now ∷ []) changes_left.now rows_left.now changes rows
IsMerge changes rows (merge.Skip changes_left rows_left) = IsMerged [] changes_left.now rows_left.now changes rows
