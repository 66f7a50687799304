-- The law of the types of values.
use Rattle.client_steps.proofs.ServedValues as values
use Rattle.client_steps.proofs.laws.values_have_types.Goals as goal

pub returns : goal.returns
returns c = values.values_have_types
