use Rattle.std.proofs.Common.{◌≡◌, ◌||◌, ◌&&◌, not, ℕ, List, take}
use Rattle.enrol_states.specs.Order.{is_in}
use Rattle.enrol_states.specs.TextSets.{has_text}
use Rattle.enrol_conflicts.proofs.held.add_features.Given as goal

abbrev pub invariant-loop-feature : goal.invariant-loop-feature
invariant-loop-feature l = (f : List ℕ) → has_text l.held f ≡ (has_text l.initial.held f || (is_in (take l.feature-index l.features) f && not (has_text l.shared f)))
