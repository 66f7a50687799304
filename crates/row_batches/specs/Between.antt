-- The batch from one map of rows to the next: a put for each row that is new or differs, and a delete for each that is gone.
use Rattle.std.specs.Prelude.{false, List, [], ◌∷◌, ◌++◌, map, bytes_eq, if◌then◌else◌}
use Rattle.std.specs.Ordering.{match_ordering}
use Rattle.row_batches.specs.declared.change.RowChange.{RowChange}
use Rattle.row_batches.specs.declared.change.RowChange.TheVariants.{Put, Delete}
use Rattle.row_batches.specs.declared.store_row.StoreRow.{StoreRow}
use Rattle.row_batches.specs.Batch.{ChangeList}
use Rattle.row_batches.specs.Rows.{key_cmp}

-- a put of the new row of a key that was there, where its value differs
abbrev pub put_where_differs : StoreRow → StoreRow → List RowChange
put_where_differs old new = if bytes_eq old.value new.value then [] else Put new ∷ []

-- The changes up to the first old row and at it, where `rest` has those from the rows behind it: rows below it are new, it is
-- gone where the next one is above, and else its value may differ.
abbrev pub changes_from : StoreRow → (List StoreRow → List RowChange) → List StoreRow → List RowChange
changes_from old rest [] = Delete old.key ∷ rest []
changes_from old rest (new ∷ news) =
    match_ordering (key_cmp old.key new.key) (Delete old.key ∷ rest (new ∷ news)) (put_where_differs old new ++ rest news) (Put new ∷ changes_from old rest news)

abbrev pub changes_between : List StoreRow → List StoreRow → List RowChange
changes_between [] news = map Put news
changes_between (old ∷ olds) news = changes_from old (λ more. changes_between olds more) news

abbrev pub between : List StoreRow → List StoreRow → ChangeList
between olds news = record { clear = false; changes = changes_between olds news }
