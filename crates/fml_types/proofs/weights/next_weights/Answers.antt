use Rattle.std.proofs.Common.{◌∙◌}
use Rattle.fml_types.specs.CappedWeights.{capped_heavier}
use Rattle.fml_types.proofs.Rounds.{next_from}
use Rattle.fml_types.proofs.weights.next_weights.Goals as goal

pub returns : goal.returns
returns c = c.in_ok-next.ensures ∙ next_from (capped_heavier c.args.graph.now) c.args.graph.now c.args.weights.now c.deref.result.now c.requires.count (c.deref.ensures.value ∙ c.in_ok-reached.ensures)
