-- Where a key stands among rows.
pub use Rattle.sequences.specs.Order.{AreAbove, AreBelow}
use Rattle.std.specs.Prelude.{ℕ, List}
use Rattle.sequences.specs.Order as order
use Rattle.row_batches.specs.declared.store_row.StoreRow.{StoreRow}
use Rattle.row_batches.specs.Rows.{key_of}

-- the row at this place has the key
abbrev pub HasKeyAt : List ℕ → List StoreRow → ℕ → Type 0
HasKeyAt key rows place = order.HasTextAt key_of key rows place

-- no row has the key, and it belongs before the row at this place
abbrev pub BelongsAt : List ℕ → List StoreRow → ℕ → Type 0
BelongsAt key rows place = order.BelongsAt key_of key rows place
