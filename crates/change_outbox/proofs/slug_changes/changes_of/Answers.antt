-- The numbers go on behind the changes of each slug.
use Rattle.change_outbox.proofs.Numbers.{numbers_go_on}
use Rattle.change_outbox.proofs.slug_changes.changes_of.Goals as goal

pub loop-step-preserved : goal.loop-step-preserved
loop-step-preserved c = record {
  changes = numbers_go_on c.loop-step.changes c.add_slug_changes.new.changes _ _ _ _ c.in_ok-add_slug_changes.ensures c.in-Some.ensures.step.split c.loop-step.invariant.changes;
  order = c.in-Some.ensures.step.order;
}
