use Rattle.std.proofs.Common.{◌≡◌, length, map, take}
use Rattle.event_counts.specs.Rows.{count_bytes}
use Rattle.event_counts.proofs.number_bytes.bytes_of_each.Given as goal

abbrev pub invariant-loop-place : goal.invariant-loop-place
invariant-loop-place l = record {
  full : length l.bytes ≡ 8;
  done : take l.place l.bytes ≡ map count_bytes (take l.place l.numbers);
}
