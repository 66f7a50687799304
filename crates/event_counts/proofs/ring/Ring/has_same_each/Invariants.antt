use Rattle.std.proofs.Common.{◌≡◌, take}
use Rattle.event_counts.proofs.ring.Ring.has_same_each.Given as goal

abbrev pub invariant-loop-place : goal.invariant-loop-place
invariant-loop-place l = take l.place l.self ≡ take l.place l.other
