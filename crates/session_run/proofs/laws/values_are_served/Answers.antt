-- The law of values.
use Rattle.session_run.proofs.Values.{serves_values}
use Rattle.session_run.proofs.laws.values_are_served.Goals as goal

pub returns : goal.returns
returns c start moment sound = serves_values start moment sound
