use Rattle.std.proofs.Common.{take}
use Rattle.client_state.specs.Sound.{HaveEnrolledHolders}
use Rattle.client_state.proofs.holders.have_enrolled_holders.Given as goal

abbrev pub invariant-loop-preference : goal.invariant-loop-preference
invariant-loop-preference l = HaveEnrolledHolders l.fn.enrolment (take l.preference-index l.fn.preferences)
