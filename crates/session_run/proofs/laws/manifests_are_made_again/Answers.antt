-- The law of written manifests.
use Rattle.session_run.proofs.WrittenManifests.{writes_manifests}
use Rattle.session_run.proofs.laws.manifests_are_made_again.Goals as goal

pub returns : goal.returns
returns c start = writes_manifests start
