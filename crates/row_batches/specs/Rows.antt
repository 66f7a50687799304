-- The rows of a store as a finite map from keys to values, and what changes make of it.
use Rattle.std.specs.Prelude.{ℕ, List, [], ◌∷◌, Option, Some, None, map}
use Rattle.std.specs.declared.cmp.Ordering.{Ordering}
use Rattle.std.specs.Cmp.Lexicographic.{slice_cmp}
use Rattle.std.specs.List.Sorted.{IsStrictlySortedBy}
use Rattle.std.specs.Ordering.{nat_cmp, match_ordering}
use Rattle.row_batches.specs.declared.change.RowChange.{RowChange}
use Rattle.row_batches.specs.declared.change.RowChange.TheVariants.{Put, Delete}
use Rattle.row_batches.specs.declared.store_row.StoreRow.{StoreRow}

-- how two keys compare: by their bytes
abbrev pub key_cmp : List ℕ → List ℕ → Ordering
key_cmp a b = slice_cmp nat_cmp a b

-- each key is below those after it
abbrev pub Rise : List (List ℕ) → Type 0
Rise keys = IsStrictlySortedBy key_cmp keys

abbrev pub key_of : StoreRow → List ℕ
key_of r = r.key

-- rows whose keys rise, which is a map from keys to values
abbrev pub AreRows : List StoreRow → Type 0
AreRows rows = Rise (map key_of rows)

-- the value of a key
abbrev pub value_of : List ℕ → List StoreRow → Option (List ℕ)
value_of key [] = None
value_of key (r ∷ rs) = match_ordering (key_cmp key r.key) None (Some r.value) (value_of key rs)

-- the rows with this one, in the place of the one of its key
abbrev pub with_row : StoreRow → List StoreRow → List StoreRow
with_row r [] = r ∷ []
with_row r (q ∷ qs) = match_ordering (key_cmp r.key q.key) (r ∷ q ∷ qs) (r ∷ qs) (q ∷ with_row r qs)

-- the rows without the one of a key
abbrev pub without_key : List ℕ → List StoreRow → List StoreRow
without_key key [] = []
without_key key (q ∷ qs) = match_ordering (key_cmp key q.key) (q ∷ qs) qs (q ∷ without_key key qs)

abbrev pub after_change : RowChange → List StoreRow → List StoreRow
after_change (Put r) rows = with_row r rows
after_change (Delete key) rows = without_key key rows

-- the rows after changes, one after the other
abbrev pub after_changes : List RowChange → List StoreRow → List StoreRow
after_changes [] rows = rows
after_changes (c ∷ cs) rows = after_changes cs (after_change c rows)

abbrev pub key_in : RowChange → List ℕ
key_in (Put r) = r.key
key_in (Delete key) = key
