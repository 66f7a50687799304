-- The law of sound states.
use Rattle.session_run.proofs.SoundRuns.{run_sound}
use Rattle.session_run.proofs.laws.runs_stay_sound.Goals as goal

pub returns : goal.returns
returns c at s lines k moment sound = (run_sound at moment s lines k sound).state
