use Rattle.std.proofs.Common.{◌≡◌, length}
use Rattle.sequences.specs.Runs.{run}
use Rattle.version_compare.specs.Bytes.{is_no_dot}
use Rattle.version_compare.proofs.front.from_dot.Given as goal

abbrev pub invariant-loop-b : goal.invariant-loop-b
invariant-loop-b l = record { same : (run is_no_dot l.bytes).1 ≡ (run is_no_dot l.rest).1 }

abbrev pub decreases-loop-b : goal.decreases-loop-b
decreases-loop-b l = length l.rest
