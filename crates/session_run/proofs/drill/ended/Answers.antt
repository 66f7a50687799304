-- A status other than NoStore stays.
use Rattle.session_run.proofs.Belonging.{drill_status}
use Rattle.session_run.proofs.drill.ended.Goals as goal

pub returns-in_default : goal.returns-in_default
returns-in_default c = drill_status c.args.status c.in_default.not-NoStore
