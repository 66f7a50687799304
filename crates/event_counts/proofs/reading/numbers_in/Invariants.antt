use Rattle.std.proofs.Common.{◌≡◌, ◌<◌, ◌*◌, ◌^◌, length, take}
use Rattle.std.specs.List.{AllByRecursion}
use Rattle.event_counts.specs.Rows.{list_bytes}
use Rattle.event_counts.proofs.reading.numbers_in.Given as goal

abbrev pub invariant-loop-place : goal.invariant-loop-place
invariant-loop-place l = record {
  bytes : list_bytes l.numbers.items ≡ take (4 * l.place) l.bytes;
  full : length l.numbers.items ≡ l.place;
  room : AllByRecursion (λ n. n < 2 ^ 32) l.numbers.items;
}
