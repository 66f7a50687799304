-- The fields of a row in bytes, and the rows whose fields have room.
use Rattle.std.specs.Prelude.{◌<◌, ◌^◌, ℕ, List, [], ◌∷◌, ◌++◌, length, ⊤}
use Rattle.std.specs.Int.{w16, w32, to_be_bytes}
use Rattle.row_batches.specs.declared.store_row.StoreRow.{StoreRow}

-- bytes behind their number, which stands in two bytes or in four
unfoldable pub short_field : List ℕ → List ℕ
short_field bytes = to_be_bytes w16 (length bytes) ++ bytes

unfoldable pub long_field : List ℕ → List ℕ
long_field bytes = to_be_bytes w32 (length bytes) ++ bytes

abbrev pub fields : StoreRow → List ℕ
fields r = short_field r.key ++ long_field r.value

-- the number of bytes has room in its field
pub record HasRoom (r : StoreRow) : Type 0 where
  pub key : length r.key < 2 ^ 16
  pub value : length r.value < 2 ^ 32

abbrev pub HaveRoom : List StoreRow → Type 0
HaveRoom [] = ⊤
HaveRoom (r ∷ rs) = HasRoom r × HaveRoom rs
