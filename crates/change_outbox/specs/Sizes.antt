-- An outbox with the size of its entries' rows.
use Rattle.std.specs.Prelude.{◌≡◌, ℕ, length}
use Rattle.row_batches.specs.Batch.{puts_text}
use Rattle.change_outbox.specs.Contents.{Contents, IsSound}
use Rattle.change_outbox.specs.Rows.{entry_rows}

-- the outbox is sound, and the puts of its entries' rows have so many bytes
pub record IsSizedOutbox (o : Contents) (size : ℕ) : Type 0 where
  pub sound : IsSound o
  pub size_is : size ≡ length (puts_text (entry_rows o.entries))
