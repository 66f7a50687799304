-- The law of written manifests.
use Rattle.client_steps.proofs.WrittenManifests.{made_again}
use Rattle.client_steps.proofs.laws.manifests_are_made_again.Goals as goal

pub returns : goal.returns
returns c = made_again
