-- What payloads that are batches make of rows, one after the other.
use Rattle.std.specs.Prelude.{◌≡◌, ℕ, List, [], ◌∷◌}
use Rattle.row_batches.specs.Batch.{ChangeList, IsBatch, batch_text, applied}
use Rattle.row_batches.specs.declared.store_row.StoreRow.{StoreRow}

-- a payload is the bytes of a batch
pub record IsBatchOf (payload : List ℕ) (batch : ChangeList) : Type 0 where
  pub rules : IsBatch batch
  pub bytes : payload ≡ batch_text batch

-- from these rows the batches make those
abbrev pub Fold : List (List ℕ) → List StoreRow → List StoreRow → Type 0
Fold [] before after = before ≡ after
Fold (payload ∷ payloads) before after = (batch : ChangeList) × IsBatchOf payload batch × Fold payloads (applied batch before) after
