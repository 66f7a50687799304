use Rattle.std.proofs.Common.{◌≡◌, ◌++◌, ◌+◌, length}
use Rattle.change_outbox.specs.Changes.{changes_between}
use Rattle.change_outbox.specs.Contents.{numbered}
use Rattle.change_outbox.specs.Walking.{AreInOrder}
use Rattle.change_outbox.proofs.slug_changes.changes_of.Given as goal

abbrev pub invariant-loop-step : goal.invariant-loop-step
invariant-loop-step l = record {
  changes : l.changes ++ numbered (length l.changes) (changes_between l.olds l.news) ≡ numbered 0 (changes_between l.old l.new);
  order : AreInOrder l.olds l.news;
}

abbrev pub decreases-loop-step : goal.decreases-loop-step
decreases-loop-step l = length l.olds + length l.news
