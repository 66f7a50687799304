-- The state of a client whose store was made just now.
use Rattle.std.specs.Prelude.{ℕ, List}
use Rattle.enrol_states.specs.State as states
use Rattle.client_state.specs.declared.client_state.ClientState.{ClientState}
use Rattle.client_state.specs.Parts.{with_empty_parts}

-- of the client with this id, made at this moment: in no recipe, without events or preferences, and with nothing to tell
abbrev pub fresh : List ℕ → ℕ → ClientState
fresh id now = with_empty_parts (states.fresh id now)
