use Rattle.std.proofs.Common.{◌<◌, ℕ}
use Rattle.std.specs.List.{All, Contains}
use Rattle.fml_types.proofs.reach.places.Given as goal

abbrev pub invariant-loop-place : goal.invariant-loop-place
invariant-loop-place l = record {
  within : All (λ i. i < l.place) l.places.items;
  each : (i : ℕ) → i < l.place → Contains l.places.items i;
}
