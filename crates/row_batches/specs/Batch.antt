-- A batch: changes of rows, its rules, its bytes, and what it makes of rows.
use Rattle.std.specs.Prelude.{◌≡◌, ◌<◌, ◌^◌, ℕ, Bool, true, false, List, [], ◌∷◌, ◌++◌, IsTrue, if◌then◌else◌, length, map, ⊤}
use Rattle.std.specs.List.{AllByRecursion}
use Rattle.std.specs.declared.cmp.Ordering.TheVariants.{Less}
use Rattle.row_batches.specs.declared.change.RowChange.{RowChange}
use Rattle.row_batches.specs.declared.change.RowChange.TheVariants.{Put, Delete}
use Rattle.row_batches.specs.declared.store_row.StoreRow.{StoreRow}
use Rattle.row_batches.specs.Batches.{short_field, fields, HasRoom}
use Rattle.row_batches.specs.Rows.{Rise, key_cmp, key_in, after_changes}

-- whether all rows are cleared first, and the changes that follow
pub record ChangeList : Type 0 where
  pub clear : Bool
  pub changes : List RowChange

-- the numbers of its bytes have room in their fields
abbrev pub FitsFields : RowChange → Type 0
FitsFields (Put r) = HasRoom r
FitsFields (Delete key) = length key < 2 ^ 16

abbrev pub IsPut : RowChange → Type 0
IsPut (Put r) = ⊤
IsPut (Delete key) = ⊥

-- the rules of a batch: keys rise, each change has room in its fields, and after a clear there are puts alone
pub record IsBatch (batch : ChangeList) : Type 0 where
  pub rise : Rise (map key_in batch.changes)
  pub room : AllByRecursion FitsFields batch.changes
  pub puts : IsTrue batch.clear → AllByRecursion IsPut batch.changes

-- the key is above those of all these changes
abbrev pub ComesNext : List ℕ → List RowChange → Type 0
ComesNext key changes = AllByRecursion (λ c. key_cmp (key_in c) key ≡ Less) changes

-- a put is the byte 1 and the row's fields, a delete the byte 2 and the key
abbrev pub change_text : RowChange → List ℕ
change_text (Put r) = 1 ∷ fields r
change_text (Delete key) = 2 ∷ short_field key

abbrev pub changes_text : List RowChange → List ℕ
changes_text [] = []
changes_text (c ∷ cs) = change_text c ++ changes_text cs

-- a put of each of these rows, in bytes
abbrev pub puts_text : List StoreRow → List ℕ
puts_text rows = changes_text (map Put rows)

-- a clear is the byte 0
abbrev pub clear_text : Bool → List ℕ
clear_text true = 0 ∷ []
clear_text false = []

-- the bytes of a batch
abbrev pub batch_text : ChangeList → List ℕ
batch_text batch = clear_text batch.clear ++ changes_text batch.changes

-- the rows after a batch
abbrev pub applied : ChangeList → List StoreRow → List StoreRow
applied batch rows = after_changes batch.changes (if batch.clear then [] else rows)

-- the batch that makes these rows of any: a clear, and a put of each
abbrev pub whole_of : List StoreRow → ChangeList
whole_of rows = record { clear = true; changes = map Put rows }
