-- The state of a client that knows of nothing but its enrolment.
use Rattle.std.specs.Prelude.{[]}
use Rattle.change_outbox.specs.Contents.{no_changes}
use Rattle.enrol_states.specs.declared.state.State.{State}
use Rattle.client_state.specs.declared.client_state.ClientState.{ClientState}

-- no event was counted, no enrolment changed, and no preference has a value
abbrev pub with_empty_parts : State → ClientState
with_empty_parts e = record { enrolment = e; events = []; outbox = no_changes; preferences = [] }
