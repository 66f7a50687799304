use Rattle.std.proofs.Common.{◌∙◌}
use Rattle.fml_types.specs.CappedHeights.{capped_higher}
use Rattle.fml_types.proofs.Rounds.{next_from}
use Rattle.fml_types.proofs.heights.next_heights.Goals as goal

pub returns : goal.returns
returns c = c.in_ok-next.ensures ∙ next_from (capped_higher c.args.graph.now) c.args.graph.now c.args.heights.now c.deref.result.now c.requires.count (c.deref.ensures.value ∙ c.in_ok-reached.ensures)
