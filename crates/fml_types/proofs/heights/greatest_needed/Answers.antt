use Rattle.std.proofs.Common.{ap₂, ◌∙◌}
use Rattle.std.specs.Prelude.{max}
use Rattle.fml_types.proofs.Greatest.{greatest_more}
use Rattle.fml_types.proofs.heights.greatest_needed.Goals as goal

pub loop-part-preserved : goal.loop-part-preserved
loop-part-preserved c = c.max-greatest.ensures ∙ ap₂ max c.needed.ensures c.loop-part.invariant ∙ greatest_more _ c.args.parts.now c.loop-part.part-index _ c.loop-part-test.true
