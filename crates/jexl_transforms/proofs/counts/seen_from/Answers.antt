use Rattle.std.proofs.Common.{Some, None, ◌∙◌}
use Rattle.jexl_transforms.proofs.SeenCounts.{seen_later}
use Rattle.jexl_transforms.proofs.counts.seen_from.Goals as goal

pub returns-in_err-place-clause-index : goal.returns-in_err-place-clause-index
returns-in_err-place-clause-index c = c.from_residual.ensures ∙ seen_later c.args.counts.now c.rest.result.now c.args.from None c.rest.ensures.items c.in_err-place.ensures

pub returns-clause-index : goal.returns-clause-index
returns-clause-index c = seen_later c.args.counts.now c.rest.result.now c.args.from (Some c.in_ok-place.place) c.rest.ensures.items c.in_ok-place.ensures
