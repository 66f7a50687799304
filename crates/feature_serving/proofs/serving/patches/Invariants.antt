-- What the first layers lay.
use Rattle.std.proofs.Common.{◌≡◌, Bor, map, take}
use Rattle.json_tree.specs.Tree.{json_of}
use Rattle.json_tree.specs.declared.tree.Tree.{Tree}
use Rattle.feature_serving.specs.declared.layers.Layer as lent
use Rattle.feature_serving.proofs.serving.patches.Given as goal

abbrev pub invariant-loop-layer : goal.invariant-loop-layer
invariant-loop-layer l = map (λ (t : Bor Tree). json_of t.now) l.patches.items ≡ map (λ (y : lent.Layer). json_of y.value.now) (take l.layer-index l.layers)
