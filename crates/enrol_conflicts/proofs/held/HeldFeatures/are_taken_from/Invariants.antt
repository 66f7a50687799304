use Rattle.std.proofs.Common.{◌≡◌, false, take}
use Rattle.std.specs.List.{list_any}
use Rattle.enrol_states.specs.TextSets.{has_text}
use Rattle.enrol_conflicts.proofs.held.HeldFeatures.are_taken_from.Given as goal

abbrev pub invariant-loop-feature : goal.invariant-loop-feature
invariant-loop-feature l = list_any (λ f. has_text l.held f) (take l.feature-index l.features) ≡ false
