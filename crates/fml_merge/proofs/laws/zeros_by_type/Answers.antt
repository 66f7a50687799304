use Rattle.fml_merge.proofs.ByType.{zeros_are}
use Rattle.fml_merge.proofs.laws.zeros_by_type.Goals as goal

pub returns : goal.returns
returns c = zeros_are
