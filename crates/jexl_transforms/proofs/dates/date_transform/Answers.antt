use Rattle.std.proofs.Common.{sym, ◌∙◌}
use Rattle.jexl_transforms.proofs.Refusing.{date_taken}
use Rattle.jexl_transforms.proofs.dates.date_transform.Goals as goal

pub returns-then-not-is_empty-clause-value : goal.returns-then-not-is_empty-clause-value
returns-then-not-is_empty-clause-value c = date_taken _ _ (sym c.is_empty.ensures ∙ c.if-not-is_empty.true)
