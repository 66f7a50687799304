use Rattle.jexl_eval.proofs.Walking.{item_got}
use Rattle.jexl_eval.proofs.elements.item_at.Goals as goal

pub returns : goal.returns
returns c = item_got c.as_slice-values.result.now c.args.items.now c.args.place c.get.result c.as_slice-values.ensures.items c.get.ensures.lookup.0 c.get.ensures.lookup.1
