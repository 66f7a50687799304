-- A batch that is ready to be committed.
use Rattle.std.specs.Prelude.{◌≡◌, ◌<◌, ◌≤◌, ◌+◌, ℕ, Bool, true, false, List, [], ◌∷◌, ◌++◌, length, if◌then◌else◌}
use Rattle.gate_journal.specs.OpenSide.{OpenSide}
use Rattle.host_model.specs.declared.host.Host.{Ghosts}
use Rattle.pair_store.specs.declared.mark.TheConstants.{MAX_RECORD_END, MAX_WHOLE}
use Rattle.pair_store.specs.Store.{IsAppended, IsTurned}
use Rattle.row_batches.specs.Batch.{ChangeList, IsBatch, applied, batch_text, whole_of}
use Rattle.row_store.specs.Store.{StoredRows, place}

-- the batch, what is written of it, and whether that is the whole map after it
pub record ReadyRows : Type 0 where
  pub batch : ChangeList
  pub payload : List ℕ
  pub is_whole : Bool

-- a record of the batch would end, with the gate behind it, past the mark
abbrev pub PassesMark : StoredRows → ChangeList → Type 0
PassesMark store batch = MAX_RECORD_END < place store + length (batch_text batch) + 6

-- what is written: the whole map after the batch exactly where the record would pass the mark
abbrev pub IsWritten : Bool → StoredRows → ChangeList → List ℕ → Type 0
IsWritten true store batch payload = (payload ≡ batch_text (whole_of (applied batch store.rows))) × PassesMark store batch
IsWritten false store batch payload = (payload ≡ batch_text batch) × (place store + length (batch_text batch) + 6 ≤ MAX_RECORD_END)

-- a store has the room for it, and the rows and the place for which it was made
pub record IsReadyFor (store : StoredRows) (ready : ReadyRows) : Type 0 where
  pub rules : IsBatch ready.batch
  pub room : length store.rows + length ready.batch.changes ≤ store.room
  pub whole_fits : length (batch_text (whole_of (applied ready.batch store.rows))) ≤ MAX_WHOLE
  pub written : IsWritten ready.is_whole store ready.batch ready.payload

-- how many bytes a commit writes, and where the next record begins then
abbrev pub commit_cost : ReadyRows → ℕ
commit_cost ready = length ready.payload + (if ready.is_whole then 16 else 6)

abbrev pub place_after : ReadyRows → ℕ → ℕ
place_after ready before = if ready.is_whole then length ready.payload + 14 else before + length ready.payload + 5

-- the payloads of the pair after a commit
abbrev pub payloads_after : Bool → List (List ℕ) → List ℕ → List (List ℕ)
payloads_after true payloads payload = payload ∷ []
payloads_after false payloads payload = payloads ++ payload ∷ []

-- what a commit makes of both sides
abbrev pub IsCommitted : {H : Type 0} → Ghosts H → Bool → OpenSide → List ℕ → H → H → Type 0
IsCommitted h true records payload old new = IsTurned h records payload old new
IsCommitted h false records payload old new = IsAppended h records payload old new
