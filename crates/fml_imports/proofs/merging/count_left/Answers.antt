use Rattle.fml_imports.proofs.Adding.{count_front}
use Rattle.fml_imports.proofs.merging.count_left.Goals as goal

pub returns-then-count-front : goal.returns-then-count-front
returns-then-count-front g c =
    count_front c.args.name.now c.as_slices.result.0.now c.as_slices.result.1.now c.args.left.now.items c.count_below-count.result c.as_slices.ensures.items c.count_below-count.ensures.count c.if-count-front.true
