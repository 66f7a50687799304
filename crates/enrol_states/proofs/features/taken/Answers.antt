use Rattle.std.proofs.Common.{rules}
use Rattle.enrol_states.proofs.Takings.{taken-here}
use Rattle.enrol_states.proofs.features.taken.Goals as goal

pub returns-in-Some : goal.returns-in-Some
returns-in-Some c =
    taken-here c.args.state.now c.args.recipe.now c.as_slice-row-items.result.now c.loop-row.row-index c.row-item.result c.in_ok-clone.field-0 c.in_ok-new.field-0 c.in-Some.feature.now c.as_slice-row-items.ensures c.loop-row-test.true c.row-item.is c.requires.rows c.loop-row.invariant (search rules) c.in_ok-new.ensures c.in-Some.ensures
