-- The law of opt-outs.
use Rattle.session_run.proofs.OptOuts.{is_out}
use Rattle.session_run.proofs.SoundRuns.{run_sound}
use Rattle.session_run.proofs.laws.opt_outs_stay.Goals as goal

pub returns : goal.returns
returns c at s lines k slug moment sound within held = is_out at s lines k slug within (run_sound at moment s lines k sound).state held
