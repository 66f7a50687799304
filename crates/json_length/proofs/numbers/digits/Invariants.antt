use Rattle.std.proofs.Common.{◌+◌, ◌≡◌, ◌≤◌, length, decimal}
use Rattle.json_length.proofs.numbers.digits.Given as goal

abbrev pub invariant-loop-rest : goal.invariant-loop-rest
invariant-loop-rest l = record {
  count : length (decimal l.rest) + l.digits ≡ length (decimal l.number) + 1;
  most : l.digits ≤ 20;
}

abbrev pub decreases-loop-rest : goal.decreases-loop-rest
decreases-loop-rest l = l.rest
