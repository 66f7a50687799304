use Rattle.std.proofs.Common.{◌≡◌, length}
use Rattle.event_counts.specs.Lists.{turned}
use Rattle.event_counts.proofs.ring.turn_by.Given as goal

abbrev pub invariant-loop-left : goal.invariant-loop-left
invariant-loop-left l = record {
  capacity : l.counts.capacity ≡ l.initial.counts.capacity;
  full : length l.counts.items ≡ l.counts.capacity;
  rest : turned l.left l.counts.items ≡ turned l.initial.left l.initial.counts.items;
}

abbrev pub decreases-loop-left : goal.decreases-loop-left
decreases-loop-left l = l.left
