-- How contracts see a state and the store that holds it.
use Rattle.std.specs.Prelude.{◌≡◌}
use Rattle.row_store.specs.Store.{StoredRows}
use Rattle.client_state.specs.declared.client_state.ClientState.{ClientState}
use Rattle.client_state.specs.Forms.{IsForm}
use Rattle.client_state.specs.Sound.{IsSound}
use Rattle.client_state.specs.Encoding.{rows_of}
use Rattle.client_store.specs.declared.found_store.FoundStore.{FoundStore}

-- the rows that are stored, and the state whose rows they are
pub record StoredState : Type 0 where
  pub rows : StoredRows
  pub state : ClientState

-- what each keeps: the state is sound, and these are its rows
pub record IsStored (stored : StoredState) : Type 0 where
  pub sound : IsSound stored.state
  pub same : stored.rows.rows ≡ rows_of stored.state

-- what is found at an opening: the state is sound, and these are its rows, or their old form
pub record IsFound (found : FoundStore) : Type 0 where
  pub sound : IsSound found.state
  pub form : IsForm found.state found.rows.rows

-- the same rows at the same place, and the same state; there may be room for more rows
pub record IsSameStored (old new : StoredState) : Type 0 where
  pub records : new.rows.records ≡ old.rows.records
  pub rows : new.rows.rows ≡ old.rows.rows
  pub state : new.state ≡ old.state
