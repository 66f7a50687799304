use Rattle.fml_imports.proofs.Alone.{stands_alone}
use Rattle.fml_imports.proofs.laws.single_reads_back.Goals as goal

pub returns : goal.returns
returns c = stands_alone
