-- The law of links.
use Rattle.session_run.proofs.Linking.{moments_are_links}
use Rattle.session_run.proofs.laws.runs_are_links.Goals as goal

pub returns : goal.returns
returns c = moments_are_links
