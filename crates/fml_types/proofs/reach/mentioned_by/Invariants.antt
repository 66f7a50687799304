use Rattle.std.proofs.Common.{◌≡◌, ◌<◌, ℕ, length}
use Rattle.std.specs.List.{Contains}
use Rattle.fml_types.specs.Ground.{parts_at}
use Rattle.fml_types.specs.Reach.{Mentions, row}
use Rattle.fml_types.proofs.reach.mentioned_by.Given as goal

abbrev pub invariant-loop-place : goal.invariant-loop-place
invariant-loop-place l = record {
  count : length l.rows.items ≡ length l.graph;
  only : (j i : ℕ) → Contains (row l.rows.items j) i → Mentions (parts_at l.graph i) j;
  all : (j i : ℕ) → i < l.place → j < length l.graph → Mentions (parts_at l.graph i) j → Contains (row l.rows.items j) i;
}
