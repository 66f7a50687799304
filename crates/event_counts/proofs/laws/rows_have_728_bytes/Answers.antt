use Rattle.event_counts.proofs.SameRows.{rows_have_728_bytes}
use Rattle.event_counts.proofs.laws.rows_have_728_bytes.Goals as goal

pub returns : goal.returns
returns c = λ ns sound. rows_have_728_bytes ns sound.names
