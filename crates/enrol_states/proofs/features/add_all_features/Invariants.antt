use Rattle.std.proofs.Common.{◌≡◌, ◌&&◌, ◌||◌, ℕ, List, not, take}
use Rattle.std.specs.List.{list_any}
use Rattle.enrol_states.specs.Order.{is_in}
use Rattle.enrol_states.specs.Recipes.{sets}
use Rattle.enrol_states.specs.TextSets.{has_text}
use Rattle.enrol_states.proofs.features.add_all_features.Given as goal

abbrev pub invariant-loop-branch : goal.invariant-loop-branch
invariant-loop-branch l = (f : List ℕ) → has_text l.features f ≡ (has_text l.fn.features f || (list_any (λ b. sets b f) (take l.branch-index l.branch-items) && not (is_in l.coenrolling f)))
