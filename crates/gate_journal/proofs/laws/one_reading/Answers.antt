use Rattle.gate_journal.proofs.Unique as unique
use Rattle.gate_journal.proofs.laws.one_reading.Goals as goal

pub returns : goal.returns
returns c = unique.one_reading
