-- The rows of an outbox, in the order of their keys.
use Rattle.std.specs.Prelude.{ℕ, nat_lt, List, [], ◌∷◌, ◌++◌, length, map, codes, if◌then◌else◌}
use Rattle.std.specs.Int.{w64, to_be_bytes}
use Rattle.row_batches.specs.declared.store_row.StoreRow.{StoreRow}
use Rattle.change_outbox.specs.declared.change.Change.{Change}
use Rattle.change_outbox.specs.declared.change.ChangeKind.{ChangeKind}
use Rattle.change_outbox.specs.declared.change.ChangeKind.TheVariants.{Join, Leave}
use Rattle.change_outbox.specs.Contents.{Contents}

-- a number in eight bytes, the highest first
unfoldable pub number_text : ℕ → List ℕ
number_text n = to_be_bytes w64 n

abbrev pub kind_letter : ChangeKind → ℕ
kind_letter Join = 74
kind_letter Leave = 76

-- J or L, the length of the slug, the slug, and the branch
abbrev pub change_text : ChangeKind → List ℕ → List ℕ → List ℕ
change_text kind slug branch = kind_letter kind ∷ length slug ∷ (slug ++ branch)

-- the letter x and the number
abbrev pub change_key : ℕ → List ℕ
change_key number = 120 ∷ number_text number

abbrev pub change_row : Change → StoreRow
change_row c = record { key = change_key c.number; value = change_text c.kind c.slug c.branch }

abbrev pub entry_rows : List Change → List StoreRow
entry_rows cs = map change_row cs

-- the next number stands under the letter x alone
abbrev pub next_row : ℕ → StoreRow
next_row next = record { key = codes "x"; value = number_text next }

-- it has a row where it is above 1
abbrev pub next_rows : ℕ → List StoreRow
next_rows next = if nat_lt 1 next then next_row next ∷ [] else []

abbrev pub rows_of : Contents → List StoreRow
rows_of o = next_rows o.next ++ map change_row o.entries
