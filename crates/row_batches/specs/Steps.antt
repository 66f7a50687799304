-- A turn of a walk over the rows of two maps.
use Rattle.std.specs.Prelude.{◌≡◌, ◌<◌, ◌+◌, List, ◌++◌, length}
use Rattle.row_batches.specs.declared.change.RowChange.{RowChange}
use Rattle.row_batches.specs.declared.store_row.StoreRow.{StoreRow}
use Rattle.row_batches.specs.Between.{changes_between}

-- these changes come first, and then those between the rows that are left, which are fewer
pub record IsTurn (changes : List RowChange) (olds_left news_left olds news : List StoreRow) : Type 0 where
  pub split : changes_between olds news ≡ changes ++ changes_between olds_left news_left
  pub fewer : length olds_left + length news_left < length olds + length news
