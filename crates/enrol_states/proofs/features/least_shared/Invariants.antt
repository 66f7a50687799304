use Rattle.std.proofs.Common.{◌&&◌, take, option_map}
use Rattle.std.specs.List.{list_any}
use Rattle.enrol_states.specs.Recipes.{sets}
use Rattle.enrol_states.specs.TextSets.{has_text}
use Rattle.enrol_states.specs.Least.{IsLeast}
use Rattle.enrol_states.proofs.features.least_shared.Given as goal

abbrev pub invariant-loop-branch : goal.invariant-loop-branch
invariant-loop-branch l = IsLeast (λ f. has_text l.features f && list_any (λ b. sets b f) (take l.branch-index l.branch-items)) (option_map (λ t. t.now) l.least)
