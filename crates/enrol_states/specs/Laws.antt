-- Laws of the definitions alone.
use Rattle.std.specs.Prelude.{◌≡◌, ◌↔◌, IsTrue}
use Rattle.enrol_states.specs.Equal.{status_eq, state_eq}
use Rattle.enrol_states.specs.declared.state.State.{State}
use Rattle.enrol_states.specs.declared.status.Status.{Status}

-- the tests of equality tell statuses and states apart
pub record EqualStatesAreOne : Type 0 where
  pub statuses : (s t : Status) → IsTrue (status_eq s t) ↔ (s ≡ t)
  pub states : (s t : State) → IsTrue (state_eq s t) ↔ (s ≡ t)
