-- The law of stores of whole states.
use Rattle.client_store.proofs.WholeStates as whole
use Rattle.client_store.proofs.laws.whole_states_stand.Goals as goal

pub returns : goal.returns
returns c = whole.whole_states_stand
