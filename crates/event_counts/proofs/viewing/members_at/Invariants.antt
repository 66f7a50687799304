use Rattle.std.proofs.Common.{◌≡◌, map, take}
use Rattle.event_counts.specs.View.{member_at}
use Rattle.event_counts.proofs.viewing.members_at.Given as goal

abbrev pub invariant-loop-counts : goal.invariant-loop-counts
invariant-loop-counts l = l.members ≡ map (member_at l.moment) (take l.counts-index l.names)
