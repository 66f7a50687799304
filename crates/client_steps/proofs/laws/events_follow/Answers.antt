-- The law of events.
use Rattle.client_steps.proofs.EventSteps as events
use Rattle.client_steps.proofs.laws.events_follow.Goals as goal

pub returns : goal.returns
returns c = events.events_follow
