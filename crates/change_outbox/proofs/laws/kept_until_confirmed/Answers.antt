use Rattle.change_outbox.proofs.Histories.{kept}
use Rattle.change_outbox.proofs.laws.kept_until_confirmed.Goals as goal

pub returns : goal.returns
returns c = kept
