use Rattle.fml_link.proofs.SingleFiles.{links_back}
use Rattle.fml_link.proofs.linking.joined.Goals as goal

pub returns-in-Ok-clause-links_back : goal.returns-in-Ok-clause-links_back
returns-in-Ok-clause-links_back c = links_back c.in-Ok.manifest c.in-Ok.ensures.well_formed c.in-Ok.ensures.sound_single
