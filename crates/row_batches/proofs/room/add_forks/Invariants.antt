use Rattle.std.proofs.Common.{◌≡◌, ◌+◌, ◌≤◌, length, vec_capacity}
use Rattle.row_batches.proofs.room.add_forks.Given as goal

abbrev pub invariant-loop : goal.invariant-loop
invariant-loop l = record {
  forks : l.forks ≡ l.fn.forks + l.counter;
  spare : length l.spare.items ≡ length l.fn.spare.items + l.counter;
  listed : l.listed.items ≡ l.fn.listed.items;
  all : l.all ≡ l.fn.forks + l.more;
  fewer : length l.fn.spare.items ≤ l.fn.forks;
  listed_room : l.all ≤ vec_capacity l.listed;
  spare_room : l.all ≤ vec_capacity l.spare;
}
