-- The law of preferences.
use Rattle.client_steps.proofs.PreferenceSteps as preferences
use Rattle.client_steps.proofs.laws.preferences_follow.Goals as goal

pub returns : goal.returns
returns c = preferences.preferences_follow
