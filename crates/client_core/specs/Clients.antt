-- What contracts see of a client.
use Rattle.std.specs.Prelude.{◌≡◌, ℕ}
use Rattle.host_model.specs.declared.host.Host.{Ghosts}
use Rattle.client_state.specs.declared.client_state.ClientState.{ClientState}
use Rattle.client_words.specs.declared.command.Command.{Command}
use Rattle.client_store.specs.OpenStore as stores
use Rattle.client_store.specs.Stored.{IsSameStored}
use Rattle.client_steps.specs.declared.session.Session.{Session}
use Rattle.client_steps.specs.Settings.{Setting}
use Rattle.client_steps.specs.Steps.{Step, step}
use Rattle.client_core.specs.declared.client.Client.{Client}

abbrev pub state_of : Client → ClientState
state_of client = client.store.state

abbrev pub session_of : Client → Session
session_of client = client.session

-- where the next record begins
abbrev pub end_of : Client → ℕ
end_of client = stores.end_of client.store

-- the sides of this host are as the client's last call left them: their records fold to the rows of its state, which is sound,
-- and each image is what reads give
abbrev pub IsOpenOn : {H : Type 0} → Ghosts H → Client → H → Type 0
IsOpenOn h client host = stores.IsOpenOn h client.store host

-- and a byte stands where the next record begins
abbrev pub HasGateOn : {H : Type 0} → Ghosts H → Client → H → Type 0
HasGateOn h client host = stores.HasGateOn h client.store host

-- it stores what it stored, in the same session; its store may have room for more rows
pub record IsSameClient (old new : Client) : Type 0 where
  pub stored : IsSameStored old.store new.store
  pub session : new.session ≡ old.session

-- the step of a command
abbrev pub step_of : Client → Setting → Command → Step
step_of client at command = step at client.store.state client.session command
