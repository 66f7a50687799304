-- What a row store on a host stands for.
use Rattle.std.specs.Prelude.{ℕ, List, []}
use Rattle.gate_journal.specs.OpenSide.{OpenSide}
use Rattle.host_model.specs.declared.host.Host.{Ghosts}
use Rattle.host_model.specs.declared.side.Side.TheVariants.{Left, Right}
use Rattle.host_model.specs.Hosts.{IsDurable}
use Rattle.pair_store.specs.Store.{PairStands, PairStandsWithGate}
use Rattle.row_batches.specs.declared.store_row.StoreRow.{StoreRow}
use Rattle.row_store.specs.Folding.{Fold}
use Rattle.row_store.specs.Rows.{HasKeptRows}

-- how contracts see a row store: where its records stand, its rows, and how many it has room for
pub record StoredRows : Type 0 where
  pub records : OpenSide
  pub rows : List StoreRow
  pub room : ℕ

-- where its next record begins
abbrev pub place : StoredRows → ℕ
place store = store.records.place

-- the pair stands for batches that make its rows, and each image is what reads give
pub record RowsStand {H : Type 0} (h : Ghosts H) (store : StoredRows) (host : H) : Type 0 where
  pub payloads : List (List ℕ)
  pub pair : PairStands h store.records host payloads
  pub made : Fold payloads [] store.rows

-- and a byte stands at its place
pub record RowsStandWithGate {H : Type 0} (h : Ghosts H) (store : StoredRows) (host : H) : Type 0 where
  pub payloads : List (List ℕ)
  pub pair : PairStandsWithGate h store.records host payloads
  pub made : Fold payloads [] store.rows

-- each pair of images has these rows, with the byte where the next batch begins, and is what reads give
pub record KeepsRows {H : Type 0} (h : Ghosts H) (host : H) (rows : List StoreRow) : Type 0 where
  pub each : (l r : List ℕ) → h.images host Left l → h.images host Right r → HasKeptRows l r rows
  pub left : IsDurable h host Left
  pub right : IsDurable h host Right
