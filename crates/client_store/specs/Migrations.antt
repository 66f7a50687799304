-- What the opening of a store writes, and where the next record begins then. Where its rows are the old form of a state, a migration puts the row of participation anew.
use Rattle.std.specs.Prelude.{◌≡◌, ℕ, Bool, nat_lt, ◌+◌, List, length, if◌then◌else◌, false, Option, None, Some, IsTrue}
use Rattle.pair_store.specs.declared.mark.TheConstants.{MAX_RECORD_END}
use Rattle.pair_store.specs.Repair.{repair_cost}
use Rattle.row_batches.specs.Batch.{applied}
use Rattle.row_store.specs.Ready.{ReadyRows, IsReadyFor, commit_cost}
use Rattle.row_store.specs.Ready as rows
use Rattle.row_store.specs.Rows.{HasPlace}
use Rattle.row_store.specs.Store as stores
use Rattle.row_store.specs.Store.{StoredRows}
use Rattle.client_state.specs.declared.client_state.ClientState.{ClientState}
use Rattle.client_state.specs.Forms.{IsOldForm, needs_migration}
use Rattle.client_state.specs.Encoding.{rows_of, encoding}
use Rattle.client_store.specs.Store.{StandsFor}

-- the record of a migration, of 9 bytes, would end at this place, with the gate behind it, past the mark: byte 33,554,432. Then the whole state is written, on the other side
abbrev pub migration_passes_mark : ℕ → Bool
migration_passes_mark place = nat_lt MAX_RECORD_END (place + 15)

-- how many bytes the migration to this state writes, where the next record begins at this place
unfoldable pub migration_bytes : ℕ → ClientState → ℕ
migration_bytes place s = if migration_passes_mark place then length (encoding s) + 16 else 15

-- where the next record begins then
unfoldable pub place_migrated : ℕ → ClientState → ℕ
place_migrated place s = if migration_passes_mark place then length (encoding s) + 14 else place + 14

-- the same of an opening, where a migration is needed or not
abbrev pub opening_bytes : Bool → ℕ → ClientState → ℕ
opening_bytes migrates place s = if migrates then migration_bytes place s else 0

abbrev pub place_opened : Bool → ℕ → ClientState → ℕ
place_opened migrates place s = if migrates then place_migrated place s else place

-- a pair of sides stands for s. Once it is open its next record begins at this place, and the opening has written so many bytes: that of a repair, and those of a migration
pub record OpensWith (l r : List ℕ) (s : ClientState) (place written : ℕ) : Type 0 where
  pub stands : StandsFor l r s
  pub before : ℕ
  pub began : HasPlace l r before
  pub place_is : place ≡ place_opened (needs_migration stands.stored) before s
  pub written_is : written ≡ repair_cost l r + opening_bytes (needs_migration stands.stored) before s

-- ---- the batch of a migration

-- it is ready to be written: it makes the rows of the state of these, which are their old form
pub record IsMigrationOf (s : ClientState) (stored : StoredRows) (migration : ReadyRows) : Type 0 where
  pub needed : IsTrue (needs_migration stored.rows)
  pub old : IsOldForm s stored.rows
  pub ready : IsReadyFor stored migration
  pub gives : applied migration.batch stored.rows ≡ rows_of s
  pub bytes : commit_cost migration ≡ migration_bytes (stores.place stored) s
  pub place : rows.place_after migration (stores.place stored) ≡ place_migrated (stores.place stored) s

-- or none is needed, where they are the rows of the state
abbrev pub IsMigration : ClientState → StoredRows → Option ReadyRows → Type 0
IsMigration s stored None = (needs_migration stored.rows ≡ false) × (stored.rows ≡ rows_of s)
IsMigration s stored (Some migration) = IsMigrationOf s stored migration
