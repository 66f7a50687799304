use Rattle.client_state.proofs.OneState.{one_form, one_encoded}
use Rattle.client_state.proofs.laws.one_state.Goals as goal

pub returns-clause-rows : goal.returns-clause-rows
returns-clause-rows c = one_form

pub returns-clause-bytes : goal.returns-clause-bytes
returns-clause-bytes c = one_encoded
