use Rattle.enrol_states.specs.Equals.{status_Decides, state_Decides}
use Rattle.enrol_states.proofs.laws.equal_states_are_one.Goals as goal

pub returns : goal.returns
returns c = record { statuses = λ s t. status_Decides s t; states = λ s t. state_Decides s t }
