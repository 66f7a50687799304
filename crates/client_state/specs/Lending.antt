-- What a change in a box is once the change was lent.
use Rattle.std.specs.Borrow.{Lends, MutBor, Fml}
use Rattle.client_state.specs.contracts.boxed_change.BoxedChange.{the_row as box_row}
use Rattle.client_state.specs.contracts.state_change.StateChange.{the_row as change_row}
use Rattle.client_state.specs.declared.state_change.StateChange.{StateChange}

-- it is what was left of the change
abbrev pub LendsChange : MutBor StateChange → MutBor StateChange → Fml
LendsChange boxed change = Lends box_row change_row boxed change (λ left. left)
