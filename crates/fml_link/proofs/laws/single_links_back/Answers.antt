use Rattle.fml_link.proofs.LinkedManifests.{linked_links_back}
use Rattle.fml_link.proofs.SingleFiles.{single_links}
use Rattle.fml_link.proofs.laws.single_links_back.Goals as goal

pub returns-clause-well_formed : goal.returns-clause-well_formed
returns-clause-well_formed c = single_links

pub returns-clause-linked : goal.returns-clause-linked
returns-clause-linked c = linked_links_back
