use Rattle.fml_imports.proofs.TypesAgain.{spelled_again}
use Rattle.fml_imports.proofs.laws.types_read_back.Goals as goal

pub returns : goal.returns
returns c = spelled_again
