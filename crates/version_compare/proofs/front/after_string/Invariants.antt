use Rattle.std.proofs.Common.{◌≡◌, length}
use Rattle.sequences.specs.Runs.{run}
use Rattle.version_compare.specs.Bytes.{is_string_byte}
use Rattle.version_compare.proofs.front.after_string.Given as goal

abbrev pub invariant-loop-b : goal.invariant-loop-b
invariant-loop-b l = record { same : (run is_string_byte l.bytes).1 ≡ (run is_string_byte l.rest).1 }

abbrev pub decreases-loop-b : goal.decreases-loop-b
decreases-loop-b l = length l.rest
