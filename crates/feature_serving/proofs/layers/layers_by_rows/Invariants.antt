-- The layers of the rows so far.
use Rattle.std.proofs.Common.{◌≡◌, map, take}
use Rattle.std.specs.List.{filter_map}
use Rattle.feature_serving.specs.Layers.{layer_of}
use Rattle.feature_serving.specs.Lent.{view}
use Rattle.feature_serving.proofs.layers.layers_by_rows.Given as goal

abbrev pub invariant-loop-row : goal.invariant-loop-row
invariant-loop-row l = map view l.layers.items ≡ filter_map (layer_of l.state.live l.feature) (take l.row-index l.row-items)
