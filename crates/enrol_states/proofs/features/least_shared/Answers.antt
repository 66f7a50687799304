use Rattle.enrol_states.specs.Recipes.{sets}
use Rattle.enrol_states.specs.TextSets.{has_text}
use Rattle.enrol_states.proofs.Leasts.{IsLeast-more}
use Rattle.enrol_states.proofs.features.least_shared.Goals as goal

pub loop-branch-preserved : goal.loop-branch-preserved
loop-branch-preserved c =
    IsLeast-more (λ f. has_text c.args.features.now f) (λ b f. sets b f) c.as_slice-branch-items.result.now c.loop-branch.branch-index c.branch-item.result _ _ _ c.loop-branch-test.true c.branch-item.is c.loop-branch.invariant c.least_set.ensures c.lesser-least.ensures
