use Rattle.event_counts.proofs.Soundness.{sound_none}
use Rattle.event_counts.proofs.counts.Counts.new.Goals as goal

pub invariant_of-result : goal.invariant_of-result
invariant_of-result c = sound_none c.new.result c.new.ensures
