-- The rows that a pair of images has.
use Rattle.std.specs.Prelude.{◌≡◌, ℕ, List, []}
use Rattle.gate_journal.specs.Records.{place_of}
use Rattle.pair_store.specs.Pair.{HasList, HasKeptList, HasNoStore}
use Rattle.row_batches.specs.declared.store_row.StoreRow.{StoreRow}
use Rattle.row_store.specs.Folding.{Fold}

-- its payloads are batches, which make these rows from none
abbrev pub HasRows : List ℕ → List ℕ → List StoreRow → Type 0
HasRows l r rows = (payloads : List (List ℕ)) × HasList l r payloads × Fold payloads [] rows

-- and a byte stands where the next batch begins
abbrev pub HasKeptRows : List ℕ → List ℕ → List StoreRow → Type 0
HasKeptRows l r rows = (payloads : List (List ℕ)) × HasKeptList l r payloads × Fold payloads [] rows

-- the next batch of the pair begins at this place
abbrev pub HasPlace : List ℕ → List ℕ → ℕ → Type 0
HasPlace l r place = (payloads : List (List ℕ)) × HasList l r payloads × (place ≡ place_of payloads)

-- a pair has the rows of one map at most
abbrev pub HasOneMap : Type 0
HasOneMap = (l r : List ℕ) (rows others : List StoreRow) → HasRows l r rows → HasRows l r others → rows ≡ others

-- there is a store, and it has no rows: it is damaged, or a payload is no batch
pub record IsBad (l r : List ℕ) : Type 0 where
  pub there : HasNoStore l r → ⊥
  pub no_rows : (rows : List StoreRow) → HasRows l r rows → ⊥
