use Rattle.std.proofs.Common.{◌≡◌, drop}
use Rattle.event_counts.specs.Kept.{moment_at}
use Rattle.event_counts.proofs.counting.moment_at.Given as goal

abbrev pub invariant-loop-counts : goal.invariant-loop-counts
invariant-loop-counts l = moment_at l.moment (drop l.counts-index l.names) ≡ moment_at l.initial.moment l.names
