-- What holds of all counts.
use Rattle.std.specs.Prelude.{◌≡◌, ℕ, List, [], length}
use Rattle.std.specs.List.{AllByRecursion}
use Rattle.json_tree.specs.Json.{get}
use Rattle.row_batches.specs.declared.store_row.StoreRow.{StoreRow}
use Rattle.event_counts.specs.declared.name_counts.NameCounts.{NameCounts}
use Rattle.event_counts.specs.History.{Event, counts_after, dated, history_view}
use Rattle.event_counts.specs.Rows.{rows_of}
use Rattle.event_counts.specs.Sound.{IsSound}
use Rattle.event_counts.specs.View.{view_of}

-- what a moment sees of a name in the counts after events is what it sees of these events
abbrev pub ViewsAddUp : Type 0
ViewsAddUp = (events : List Event) (now : ℕ) (name : List ℕ) → get name (view_of now (counts_after [] events)) ≡ history_view now name (dated 0 events)

-- sound counts with the same rows are the same
abbrev pub HaveOneListOfRows : Type 0
HaveOneListOfRows = (ns ms : List NameCounts) → IsSound ns → IsSound ms → rows_of ns ≡ rows_of ms → ns ≡ ms

abbrev pub Has728Bytes : StoreRow → Type 0
Has728Bytes r = length r.value ≡ 728

abbrev pub RowsHave728Bytes : Type 0
RowsHave728Bytes = (ns : List NameCounts) → IsSound ns → AllByRecursion Has728Bytes (rows_of ns)
