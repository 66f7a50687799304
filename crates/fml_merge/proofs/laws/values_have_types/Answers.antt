use Rattle.fml_merge.proofs.ByType.{values_typed, features_typed}
use Rattle.fml_merge.proofs.laws.values_have_types.Goals as goal

pub returns-clause-of_types : goal.returns-clause-of_types
returns-clause-of_types c = values_typed

pub returns-clause-of_features : goal.returns-clause-of_features
returns-clause-of_features c = features_typed
