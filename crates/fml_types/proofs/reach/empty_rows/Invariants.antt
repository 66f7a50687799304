use Rattle.std.proofs.Common.{◌≡◌, ℕ, [], length}
use Rattle.fml_types.specs.Reach.{row}
use Rattle.fml_types.proofs.reach.empty_rows.Given as goal

abbrev pub invariant-loop : goal.invariant-loop
invariant-loop l = record {
  count : length l.rows.items ≡ l.counter;
  empty : (j : ℕ) → row l.rows.items j ≡ [];
}
