-- The law of the outbox over chains.
use Rattle.session_run.proofs.Outboxes.{outbox_is_kept}
use Rattle.session_run.proofs.laws.outbox_chain.Goals as goal

pub returns : goal.returns
returns c l r s t links kept chain none ends = outbox_is_kept l r s t links kept chain none ends
