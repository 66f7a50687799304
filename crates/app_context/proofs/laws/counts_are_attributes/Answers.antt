use Rattle.app_context.proofs.ByTable.{have_counts}
use Rattle.app_context.proofs.laws.counts_are_attributes.Goals as goal

pub returns : goal.returns
returns c = have_counts
