-- They are names, and in order.
use Rattle.client_steps.proofs.Coenrolling.{gathered_names, gathered_rise}
use Rattle.client_steps.proofs.linked_manifest.LinkedManifest.coenrolling.Goals as goal

pub returns-clause-names : goal.returns-clause-names
returns-clause-names c = gathered_names c.manifest.result.now c.manifest.ensures.linked c.coenrolling_features.result c.coenrolling_features.ensures

pub returns-clause-order : goal.returns-clause-order
returns-clause-order c = gathered_rise c.manifest.result.now c.manifest.ensures.linked c.coenrolling_features.result c.coenrolling_features.ensures
