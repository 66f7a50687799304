-- The law of the outbox.
use Rattle.client_steps.proofs.OutboxSteps as outbox
use Rattle.client_steps.proofs.laws.outbox_follows.Goals as goal

pub returns : goal.returns
returns c = outbox.outbox_follows
