-- The law of sound steps.
use Rattle.client_steps.proofs.Soundness as soundness
use Rattle.client_steps.proofs.laws.steps_stay_sound.Goals as goal

pub returns : goal.returns
returns c = soundness.steps_stay_sound
