use Rattle.version_compare.proofs.Totality.{version_order_law}
use Rattle.version_compare.proofs.laws.version_order_is_total.Goals as goal

pub returns : goal.returns
returns c = version_order_law
