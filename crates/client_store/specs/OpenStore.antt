-- A store that is open on a host.
use Rattle.std.specs.Prelude.{◌⊎◌, ℕ, List}
use Rattle.host_model.specs.declared.side.Side.{Side}
use Rattle.host_model.specs.declared.side.Side.TheVariants.{Left, Right}
use Rattle.host_model.specs.declared.host.Host.{Ghosts}
use Rattle.host_model.specs.Hosts.{IsDurable}
use Rattle.row_store.specs.Ready.{IsCommitted}
use Rattle.row_store.specs.Store.{RowsStand, RowsStandWithGate, place}
use Rattle.client_state.specs.declared.client_state.ClientState.{ClientState}
use Rattle.client_store.specs.Places.{makes_checkpoint, payload_for}
use Rattle.client_store.specs.Store.{StandsFor, KeptFor, KeptAmong}
use Rattle.client_store.specs.Stored.{StoredState, IsStored}

-- where the next record begins
abbrev pub end_of : StoredState → ℕ
end_of store = place store.rows

-- the sides of this host are as the last call left them: their records fold to the rows of the state, which is sound, and each
-- image is what reads give
pub record IsOpenOn {H : Type 0} (h : Ghosts H) (store : StoredState) (host : H) : Type 0 where
  pub stored : IsStored store
  pub stands : RowsStand h store.rows host

-- and a byte stands where the next record begins
abbrev pub HasGateOn : {H : Type 0} → Ghosts H → StoredState → H → Type 0
HasGateOn h store host = RowsStandWithGate h store.rows host

-- what a change to t makes of both sides: the record of the changed rows stands where the next one begins, or the whole of t on the
-- other side, which counts then. Else both sides are as they were
abbrev pub IsChangedTo : {H : Type 0} → Ghosts H → StoredState → ClientState → H → H → Type 0
IsChangedTo h store t old new =
    IsCommitted h (makes_checkpoint (end_of store) store.state t) store.rows.records (payload_for (end_of store) store.state t) old new

-- each image of either side is what reads give
abbrev pub AreDurable : {H : Type 0} → Ghosts H → H → Type 0
AreDurable h host = (side : Side) → IsDurable h host side

-- each pair of images is kept for s
abbrev pub AllKept : {H : Type 0} → Ghosts H → H → ClientState → Type 0
AllKept h host s = (l r : List ℕ) → h.images host Left l → h.images host Right r → KeptFor l r s

-- each for s or for t
abbrev pub AllKeptEither : {H : Type 0} → Ghosts H → H → ClientState → ClientState → Type 0
AllKeptEither h host s t = (l r : List ℕ) → h.images host Left l → h.images host Right r → KeptFor l r s ⊎ KeptFor l r t

-- each for one of these states
abbrev pub AllKeptAmong : {H : Type 0} → Ghosts H → H → List ClientState → Type 0
AllKeptAmong h host states = (l r : List ℕ) → h.images host Left l → h.images host Right r → KeptAmong l r states

-- each pair of images stands for s
abbrev pub AllStand : {H : Type 0} → Ghosts H → H → ClientState → Type 0
AllStand h host s = (l r : List ℕ) → h.images host Left l → h.images host Right r → StandsFor l r s
