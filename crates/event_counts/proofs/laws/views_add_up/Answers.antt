use Rattle.event_counts.proofs.Adding.{views_add_up}
use Rattle.event_counts.proofs.laws.views_add_up.Goals as goal

pub returns : goal.returns
returns c = views_add_up
