use Rattle.fml_types.proofs.Coenrolled.{one_more}
use Rattle.fml_types.proofs.manifest.coenrolling_features.Goals as goal

pub loop-name-preserved : goal.loop-name-preserved
loop-name-preserved c =
    one_more c.as_slice-features.result.now c.loop-name.name-index c.loop-name-item.result c.loop-name.names c.push_coenrolling.new.names c.loop-name-test.true c.loop-name-item.is c.in_ok-push_coenrolling.ensures c.loop-name.invariant
