use Rattle.std.proofs.Common.{◌≡◌, length}
use Rattle.std.specs.Char.{is_ascii_digit}
use Rattle.version_compare.specs.Counting.{magnitude_from, FitsCount}
use Rattle.sequences.specs.Runs.{run}
use Rattle.version_compare.specs.Versions.{magnitude}
use Rattle.version_compare.proofs.numbers.digits.Given as goal

abbrev pub invariant-loop-digit : goal.invariant-loop-digit
invariant-loop-digit l = record {
  same : magnitude (run is_ascii_digit l.bytes).0 ≡ magnitude_from l.count l.value (run is_ascii_digit l.rest).0;
  rest : (run is_ascii_digit l.bytes).1 ≡ (run is_ascii_digit l.rest).1;
  fits : FitsCount l.count l.value;
}

abbrev pub decreases-loop-digit : goal.decreases-loop-digit
decreases-loop-digit l = length l.rest
