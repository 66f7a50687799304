-- What the parts of a reader of batches find.
use Rattle.std.specs.Prelude.{◌≡◌, ◌≢◌, ◌<◌, ◌^◌, ℕ, List, [], ◌∷◌, ◌++◌, length}
use Rattle.row_batches.specs.declared.change.RowChange.{RowChange}
use Rattle.row_batches.specs.declared.change.RowChange.TheVariants as change
use Rattle.row_batches.specs.declared.store_row.StoreRow.{StoreRow}
use Rattle.row_batches.specs.declared.parts.Next.{Next}
use Rattle.row_batches.specs.declared.parts.Next.TheVariants.{End, NoChange, Put, Delete}
use Rattle.row_batches.specs.Batch.{FitsFields, change_text}
use Rattle.row_batches.specs.Batches.{short_field, long_field, fields, HasRoom}

abbrev pub HasNoShortField : List ℕ → Type 0
HasNoShortField bytes = (field rest : List ℕ) → length field < 2 ^ 16 → bytes ≡ short_field field ++ rest → ⊥

abbrev pub HasNoLongField : List ℕ → Type 0
HasNoLongField bytes = (field rest : List ℕ) → length field < 2 ^ 32 → bytes ≡ long_field field ++ rest → ⊥

-- bytes that don't begin with a change
pub record HasNoChange (bytes : List ℕ) : Type 0 where
  pub more : bytes ≢ []
  pub none : (c : RowChange) (rest : List ℕ) → FitsFields c → bytes ≡ change_text c ++ rest → ⊥

-- bytes that begin with a change
pub record HasChange (c : RowChange) (rest bytes : List ℕ) : Type 0 where
  pub split : bytes ≡ change_text c ++ rest
  pub room : FitsFields c

abbrev pub put_of : List ℕ → List ℕ → RowChange
put_of key value = change.Put (record { key = key; value = value })

-- what stands at the front of the bytes of changes
abbrev pub IsNext : List ℕ → Next → Type 0
IsNext bytes End = bytes ≡ []
IsNext bytes NoChange = HasNoChange bytes
IsNext bytes (Put key value rest) = HasChange (put_of key.now value.now) rest.now bytes
IsNext bytes (Delete key rest) = HasChange (change.Delete key.now) rest.now bytes

-- what stands behind the byte that begins a put
abbrev pub IsPutAt : List ℕ → Next → Type 0
IsPutAt bytes End = ⊥
IsPutAt bytes NoChange = (r : StoreRow) (rest : List ℕ) → HasRoom r → bytes ≡ fields r ++ rest → ⊥
IsPutAt bytes (Put key value rest) = HasChange (put_of key.now value.now) rest.now (1 ∷ bytes)
IsPutAt bytes (Delete key rest) = ⊥

-- what stands behind the byte that begins a delete
abbrev pub IsDeleteAt : List ℕ → Next → Type 0
IsDeleteAt bytes End = ⊥
IsDeleteAt bytes NoChange = HasNoShortField bytes
IsDeleteAt bytes (Put key value rest) = ⊥
IsDeleteAt bytes (Delete key rest) = HasChange (change.Delete key.now) rest.now (2 ∷ bytes)
