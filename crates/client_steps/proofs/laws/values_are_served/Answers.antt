-- The law of values.
use Rattle.client_steps.proofs.ServedValues as values
use Rattle.client_steps.proofs.laws.values_are_served.Goals as goal

pub returns : goal.returns
returns c = values.values_are_served
