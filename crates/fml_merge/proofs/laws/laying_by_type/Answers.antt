use Rattle.fml_merge.proofs.ByType.{laying_is}
use Rattle.fml_merge.proofs.laws.laying_by_type.Goals as goal

pub returns : goal.returns
returns c = laying_is
