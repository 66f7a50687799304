-- The rows that keep counts in a store.
use Rattle.std.specs.Prelude.{ℕ, List, ◌++◌, codes, map}
use Rattle.std.specs.List.{flat_map}
use Rattle.std.specs.Int.{w32, w64, to_be_bytes}
use Rattle.row_batches.specs.declared.store_row.StoreRow.{StoreRow}
use Rattle.event_counts.specs.declared.name_counts.NameCounts.{NameCounts}

-- counts in four bytes each, the highest first
unfoldable pub count_bytes : ℕ → List ℕ
count_bytes n = to_be_bytes w32 n

abbrev pub list_bytes : List ℕ → List ℕ
list_bytes xs = flat_map count_bytes xs

-- the latest moment in eight bytes, the highest first
unfoldable pub moment_bytes : ℕ → List ℕ
moment_bytes n = to_be_bytes w64 n

-- the lists follow the latest moment, the newest counts first
abbrev pub value_of : NameCounts → List ℕ
value_of n = moment_bytes n.latest ++ (list_bytes n.hours ++ (list_bytes n.days ++ list_bytes n.weeks))

abbrev pub row_of : NameCounts → StoreRow
row_of n = record { key = codes "e" ++ n.name; value = value_of n }

abbrev pub rows_of : List NameCounts → List StoreRow
rows_of ns = map row_of ns
