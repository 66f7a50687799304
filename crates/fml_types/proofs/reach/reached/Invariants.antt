use Rattle.std.proofs.Common.{◌≡◌, ◌<◌, ◌≤◌, ℕ, length, get_or}
use Rattle.fml_types.specs.Reach.{Closed}
use Rattle.fml_types.specs.Values.{value_in}
use Rattle.fml_types.proofs.reach.reached.Given as goal

abbrev pub invariant-loop-place : goal.invariant-loop-place
invariant-loop-place l = record {
  count : length l.reached.items ≡ length l.values;
  rises : (i : ℕ) → value_in l.values i ≤ value_in l.reached.items i;
  closed : (k : ℕ) → k < l.place-index → Closed l.mentioned_by (value_in l.reached.items) (get_or l.place-items k 0);
  least : (u : ℕ → ℕ) → ((j : ℕ) → Closed l.mentioned_by u j) → ((i : ℕ) → value_in l.values i ≤ u i) → (i : ℕ) → value_in l.reached.items i ≤ u i;
}
