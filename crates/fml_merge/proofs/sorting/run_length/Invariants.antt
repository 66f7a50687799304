use Rattle.std.proofs.Common.{◌≡◌, ◌+◌, map, drop}
use Rattle.fml_merge.specs.Layers.{piece_of, run_length}
use Rattle.fml_merge.proofs.sorting.run_length.Given as goal

abbrev pub invariant-loop-index : goal.invariant-loop-index
invariant-loop-index l = run_length l.name (map piece_of l.pieces) ≡ l.index + run_length l.name (map piece_of (drop l.index l.pieces))
