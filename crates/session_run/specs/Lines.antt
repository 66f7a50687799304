-- What is promised of a line.
use Rattle.std.specs.Prelude.{◌≡◌, ◌≢◌, ◌+◌, ◌++◌, ℕ, List, Result, Ok, Err, OnOk}
use Rattle.host_model.specs.declared.host.Host.{Ghosts}
use Rattle.host_model.specs.Hosts.{MeetsAll}
use Rattle.client_state.specs.declared.client_state.ClientState.{ClientState}
use Rattle.client_core.specs.declared.client.Client.{Client}
use Rattle.client_core.specs.Clients.{state_of, end_of, IsOpenOn, HasGateOn}
use Rattle.client_store.specs.Places.{bytes_for}
use Rattle.session_run.specs.declared.faults.RunFault.{RunFault}
use Rattle.session_run.specs.Ends.{FaultCost, LineEnds}
use Rattle.session_run.specs.Moments.{DuringLine}
use Rattle.session_run.specs.Writes.{IsBelowMark}

-- how many bytes are written once a line has ended, by the counts before it and once it is done
abbrev pub LineCost : {T : Type 0} → ℕ → ℕ → ℕ → Result T RunFault → Type 0
LineCost before after now (Ok done) = now ≡ after
LineCost before after now (Err fault) = FaultCost before after now fault

-- a line on this client that leads to the state t, with this answer
pub record LineRan {H T : Type 0} (h : Ghosts H) (client : Client) (t : ClientState) (text : List ℕ) (old new : H)
    (result : Result T RunFault) : Type 0 where
  -- at each moment: the text of before with the old or the new state, or the new state with a prefix of the answer
  pub moments : HasGateOn h client old → MeetsAll h old new (DuringLine (h.said old) (state_of client) t text)
  -- what stands when it has ended, and what is said where it is done
  pub ends : HasGateOn h client old → LineEnds h (state_of client) t text (h.said old) new result
  pub said : OnOk result (h.said new ≡ h.said old ++ text)
  -- a line that is done writes exactly the bytes of its change
  pub cost : LineCost (h.written old) (h.written old + bytes_for (end_of client) (state_of client) t) (h.written new) result

-- a line that leaves this client, whatever the shelf tells
pub record StaysOpen {H T : Type 0} (h : Ghosts H) (client new_client : Client) (old new : H) (result : Result T RunFault) : Type 0 where
  -- where it is done the client is open on the host that it leaves
  pub holds : OnOk result (IsOpenOn h new_client new)
  -- with a byte at the gate behind its records, if one stood there before or the state changed
  pub gate : OnOk result (HasGateOn h client old → HasGateOn h new_client new)
  pub gate_made : OnOk result (state_of client ≢ state_of new_client → HasGateOn h new_client new)
  -- no byte at or past byte 33,554,432 of a side is written
  pub below : MeetsAll h old new (IsBelowMark h old)
