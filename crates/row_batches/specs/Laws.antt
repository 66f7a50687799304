-- Laws of the definitions alone.
use Rattle.std.specs.Prelude.{◌≡◌, ◌↔◌, List, []}
use Rattle.row_batches.specs.declared.store_row.StoreRow.{StoreRow}
use Rattle.row_batches.specs.Batch.{ChangeList, IsBatch, applied, batch_text}
use Rattle.row_batches.specs.Between.{changes_between, between}
use Rattle.row_batches.specs.Rows.{AreRows}

-- batches that have one encoding are one
abbrev pub HasOneEncoding : Type 0
HasOneEncoding = (b c : ChangeList) → IsBatch b → IsBatch c → batch_text b ≡ batch_text c → b ≡ c

-- the batch between two maps is empty exactly where they are equal
abbrev pub IsEmptyWhereEqual : Type 0
IsEmptyWhereEqual = (olds news : List StoreRow) → AreRows olds → AreRows news → (changes_between olds news ≡ []) ↔ (olds ≡ news)

-- the batch between two maps makes the new one of the old one
abbrev pub MakesTheNew : Type 0
MakesTheNew = (olds news : List StoreRow) → AreRows olds → AreRows news → applied (between olds news) olds ≡ news
