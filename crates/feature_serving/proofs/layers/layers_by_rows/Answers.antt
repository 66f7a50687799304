-- One row more.
use Rattle.std.proofs.Common.{map, ap, ◌∙◌}
use Rattle.feature_serving.specs.Layers.{layer_of}
use Rattle.feature_serving.specs.Lent.{view}
use Rattle.feature_serving.proofs.Gathering.{gathered_one, gathered_none}
use Rattle.feature_serving.proofs.layers.layers_by_rows.Goals as goal
use Rattle.feature_serving.proofs.layers.layers_by_rows.Goals.{in-Some+in_ok-push, in_default}

pub loop-row-preserved : goal.loop-row-preserved
loop-row-preserved c =
    let given = layer_of c.args.state.now.live c.args.feature.now in
    let rows = c.as_slice-row-items.result.now in
    elim c.match-layer_of.branch [
      | in-Some+in_ok-push w ↦ ap (λ v. map view v.items) w.layers-is ∙ ap (map view) w.in_ok-push.ensures.items ∙ gathered_one view given rows c.loop-row.row-index c.row-item.result c.loop-row-test.true c.row-item.is c.loop-row.layers.items c.loop-row.invariant _ w.in-Some.ensures
      | in_default w ↦ ap (λ v. map view v.items) w.layers-is ∙ gathered_none view given rows c.loop-row.row-index c.row-item.result c.loop-row-test.true c.row-item.is c.loop-row.layers.items c.loop-row.invariant w.in_default.ensures
    ]
