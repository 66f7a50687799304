use Rattle.fml_link.proofs.IncludedFiles.{linked_as_included}
use Rattle.fml_link.proofs.laws.included_files.Goals as goal

pub returns : goal.returns
returns c = linked_as_included
