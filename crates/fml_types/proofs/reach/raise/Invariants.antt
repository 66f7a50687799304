use Rattle.std.proofs.Common.{◌≡◌, drop, length}
use Rattle.fml_types.specs.Reach.{raised_all}
use Rattle.fml_types.proofs.reach.raise.Given as goal

abbrev pub invariant-loop-place : goal.invariant-loop-place
invariant-loop-place l = record {
  count : length l.values ≡ length l.fn.values;
  so_far : raised_all l.value (drop l.place-index l.places) (l.values, l.pending.items) ≡ raised_all l.value l.places (l.fn.values, l.fn.pending.items);
}
