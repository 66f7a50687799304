use Rattle.std.proofs.Common.{take, ap, ◌∙◌}
use Rattle.jexl_transforms.specs.Events.{items_in}
use Rattle.jexl_transforms.proofs.SeenCounts.{first_seen_as}
use Rattle.jexl_transforms.proofs.counts.counts_of.Goals as goal

pub returns-clause-counts : goal.returns-clause-counts
returns-clause-counts c = first_seen_as c.items_in-items.result.now c.first.result.now 72 c.first.ensures.items ∙ ap (take 72) (c.items_in-items.ensures ∙ ap items_in c.kept_of.ensures)
