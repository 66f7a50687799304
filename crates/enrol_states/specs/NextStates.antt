-- The state that a change makes of another, and the parts of its lists.
use Rattle.sequences.specs.ListParts.{IsPart}
use Rattle.enrol_states.specs.declared.next_state.NextState.{NextState}
use Rattle.enrol_states.specs.declared.state.State.{State}

-- the opt-outs and the rows of the next state are those of before but for these parts
pub record HasParts (old : State) (next : NextState) : Type 0 where
  pub opted_out : IsPart next.opted_out old.opted_out next.state.opted_out
  pub rows : IsPart next.rows old.rows next.state.rows
