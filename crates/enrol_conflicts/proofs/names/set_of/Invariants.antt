use Rattle.std.proofs.Common.{◌≡◌, ℕ, List, take}
use Rattle.enrol_states.specs.Order.{is_in}
use Rattle.enrol_states.specs.TextSets.{has_text}
use Rattle.enrol_conflicts.proofs.names.set_of.Given as goal

abbrev pub invariant-loop-name : goal.invariant-loop-name
invariant-loop-name l = (f : List ℕ) → has_text l.set f ≡ is_in (take l.name-index l.names) f
