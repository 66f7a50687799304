use Rattle.event_counts.proofs.SameRows.{one_list_of_rows}
use Rattle.event_counts.proofs.laws.one_list_of_rows.Goals as goal

pub returns : goal.returns
returns c = one_list_of_rows
