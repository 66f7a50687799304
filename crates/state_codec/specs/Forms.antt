-- The forms of a state: its rows, and the old form of them, which earlier builds left. Where participation was one flag, its byte
-- was 0 or 1.
use Rattle.std.specs.Prelude.{◌≡◌, ◌⊎◌, ℕ, ◌&&◌, ◌||◌, Bool, List, [], ◌∷◌, codes, bytes_eq}
use Rattle.std.specs.List.{list_any}
use Rattle.row_batches.specs.Batch.{ChangeList, batch_text, whole_of}
use Rattle.row_batches.specs.declared.store_row.StoreRow.{StoreRow}
use Rattle.enrol_states.specs.declared.state.State.{State}
use Rattle.state_values.specs.Values.{bit, participation_byte}
use Rattle.state_codec.specs.Encoding.{first_rows, later_rows, rows_with, rows_of, encoding}

-- participation is on in both kinds or off in both
abbrev pub HasOneFlag : State → Type 0
HasOneFlag s = s.experiments ≡ s.rollouts

-- the old form of the rows of a state with one flag: the byte of participation is 0 where it is off, and 1 where it is on
abbrev pub old_rows : State → List StoreRow
old_rows s = rows_with (bit s.experiments) s

-- the bytes of a clear and of a put of each row of the old form
unfoldable pub old_encoding : State → List ℕ
old_encoding s = batch_text (whole_of (old_rows s))

-- these rows are the old form of the state
pub record IsOldForm (s : State) (rows : List StoreRow) : Type 0 where
  pub one_flag : HasOneFlag s
  pub same : rows ≡ old_rows s

-- these rows are those of the state, or their old form
abbrev pub IsForm : State → List StoreRow → Type 0
IsForm s rows = (rows ≡ rows_of s) ⊎ IsOldForm s rows

-- these are the later rows of the old form of the state
pub record IsOldLater (s : State) (later : List StoreRow) : Type 0 where
  pub one_flag : HasOneFlag s
  pub same : later ≡ later_rows (bit s.experiments) s

-- these are the later rows of the state, or those of its old form
abbrev pub IsLaterForm : State → List StoreRow → Type 0
IsLaterForm s later = (later ≡ later_rows (participation_byte s) s) ⊎ IsOldLater s later

-- these are the first rows of the state, and its later ones or those of its old form
pub record AreParts (s : State) (first later : List StoreRow) : Type 0 where
  pub first_are : first ≡ first_rows s
  pub later_are : IsLaterForm s later

-- this batch makes a form of the state of any rows
pub record MakesForm (s : State) (batch : ChangeList) : Type 0 where
  pub rows : List StoreRow
  pub form : IsForm s rows
  pub whole : batch ≡ whole_of rows

-- these bytes encode the old form of the state
pub record IsOldEncoding (s : State) (bytes : List ℕ) : Type 0 where
  pub one_flag : HasOneFlag s
  pub same : bytes ≡ old_encoding s

-- these bytes are the encoding of the state, or encode its old form
abbrev pub IsEncoded : State → List ℕ → Type 0
IsEncoded s bytes = (bytes ≡ encoding s) ⊎ IsOldEncoding s bytes

-- the row of participation, in the old form
abbrev pub is_old : StoreRow → Bool
is_old r = bytes_eq r.key (codes "p") && (bytes_eq r.value (0 ∷ []) || bytes_eq r.value (1 ∷ []))

-- whether the row `p` is 0 or 1
abbrev pub needs_migration : List StoreRow → Bool
needs_migration rows = list_any is_old rows
