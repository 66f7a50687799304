use Rattle.std.proofs.Common.{ap₂, ◌∙◌}
use Rattle.jexl_eval.specs.Elements.{occurs}
use Rattle.jexl_eval.proofs.Finding.{found}
use Rattle.jexl_eval.proofs.elements.occurs.Goals as goal

pub returns : goal.returns
returns c = c.is_some.ensures ∙ found c.as_bytes-2.result.now c.as_bytes.result.now c.find.result c.find.ensures ∙ ap₂ occurs c.as_bytes-2.ensures.value c.as_bytes.ensures.value
