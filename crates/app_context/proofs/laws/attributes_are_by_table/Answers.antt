use Rattle.app_context.proofs.ByTable.{by_table}
use Rattle.app_context.proofs.laws.attributes_are_by_table.Goals as goal

pub returns : goal.returns
returns c = by_table
