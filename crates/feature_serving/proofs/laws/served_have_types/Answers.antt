use Rattle.feature_serving.proofs.Types.{typed_by_types}
use Rattle.feature_serving.proofs.laws.served_have_types.Goals as goal

pub returns : goal.returns
returns c = typed_by_types
