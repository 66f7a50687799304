use Rattle.enrol_states.proofs.Takings.{NoneTakenBefore}
use Rattle.enrol_states.proofs.features.taken.Given as goal

abbrev pub invariant-loop-row : goal.invariant-loop-row
invariant-loop-row l = NoneTakenBefore l.state l.recipe l.row-items l.row-index
