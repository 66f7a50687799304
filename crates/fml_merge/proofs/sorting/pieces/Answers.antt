use Rattle.std.proofs.Common.{◌++◌, ap, ◌∙◌}
use Rattle.fml_merge.proofs.Sorted.{pieces_more}
use Rattle.fml_merge.proofs.sorting.pieces.Goals as goal

pub loop-layer-preserved : goal.loop-layer-preserved
loop-layer-preserved c =
    c.in_ok-push_members.ensures ∙ ap (λ ps. ps ++ c.layer-item.result.now) c.loop-layer.invariant ∙ pieces_more (λ m. m.now) c.args.layers.now c.loop-layer.layer-index c.layer-item.result c.loop-layer-test.true c.layer-item.is
