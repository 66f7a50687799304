-- The law of events over chains.
use Rattle.session_run.proofs.Events.{events_are_kept}
use Rattle.session_run.proofs.laws.event_chain.Goals as goal

pub returns : goal.returns
returns c l r s t links kept chain none ends now name = events_are_kept l r s t links kept chain none ends now name
