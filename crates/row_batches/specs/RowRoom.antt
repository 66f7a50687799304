-- How contracts see a map of rows.
use Rattle.std.specs.Prelude.{◌≡◌, ◌≢◌, ◌≤◌, ◌+◌, ◌++◌, ℕ, List, [], length}
use Rattle.row_batches.specs.Batches.{HaveRoom}
use Rattle.row_batches.specs.Rows.{AreRows}
use Rattle.row_batches.specs.declared.store_row.StoreRow.{StoreRow}

-- its rows, and how many it has room for
pub record RowsInRoom : Type 0 where
  pub rows : List StoreRow
  pub room : ℕ

-- rows as batches make them: their keys rise, and their fields have room
pub record AreSoundRows (rows : List StoreRow) : Type 0 where
  pub rise : AreRows rows
  pub fields : HaveRoom rows

-- sound rows, in a list or in a tree, and forks for as many as there is room for, which both have places for
pub record KeepsRoom (listed standing : List StoreRow) (spare room forks listed_room spare_room : ℕ) : Type 0 where
  pub sound : AreSoundRows (listed ++ standing)
  pub alone : listed ≢ [] → standing ≡ []
  pub count : length standing + spare ≡ forks
  pub forks_fit : room ≤ forks
  pub listed_fit : forks ≤ listed_room
  pub spare_fit : forks ≤ spare_room
