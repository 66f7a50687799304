-- The forms of a client's state: its rows, and the old form of them, which earlier builds left: in it the byte of participation is 0
-- or 1. A part without anything has no row, so rows that were written before there were parts are those of a state with empty parts.
use Rattle.std.specs.Prelude.{◌≡◌, ◌⊎◌, ℕ, List}
use Rattle.row_batches.specs.Batch.{batch_text, whole_of}
use Rattle.row_batches.specs.declared.store_row.StoreRow.{StoreRow}
use Rattle.state_values.specs.Values.{bit}
use Rattle.state_codec.specs.Forms.{HasOneFlag}
use Rattle.client_state.specs.declared.client_state.ClientState.{ClientState}
use Rattle.client_state.specs.Encoding.{rows_with, rows_of, encoding}
pub use Rattle.state_codec.specs.Forms.{needs_migration}

-- the old form of the rows of a state with one flag: the byte of participation is 0 where it is off, and 1 where it is on
abbrev pub old_rows : ClientState → List StoreRow
old_rows s = rows_with (bit s.enrolment.experiments) s

-- the bytes of a clear and of a put of each row of the old form
unfoldable pub old_encoding : ClientState → List ℕ
old_encoding s = batch_text (whole_of (old_rows s))

-- these rows are the old form of the state
pub record IsOldForm (s : ClientState) (rows : List StoreRow) : Type 0 where
  pub one_flag : HasOneFlag s.enrolment
  pub same : rows ≡ old_rows s

-- these rows are those of the state, or their old form
abbrev pub IsForm : ClientState → List StoreRow → Type 0
IsForm s rows = (rows ≡ rows_of s) ⊎ IsOldForm s rows

-- these bytes encode the old form of the state
pub record IsOldEncoding (s : ClientState) (bytes : List ℕ) : Type 0 where
  pub one_flag : HasOneFlag s.enrolment
  pub same : bytes ≡ old_encoding s

-- these bytes are the encoding of the state, or encode its old form
abbrev pub IsEncoded : ClientState → List ℕ → Type 0
IsEncoded s bytes = (bytes ≡ encoding s) ⊎ IsOldEncoding s bytes
