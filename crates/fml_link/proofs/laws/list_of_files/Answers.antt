use Rattle.fml_link.proofs.Closed.{list_is_closed}
use Rattle.fml_link.proofs.FileLists.{root_is_first, list_is_distinct}
use Rattle.fml_link.proofs.laws.list_of_files.Goals as goal

pub returns-clause-root : goal.returns-clause-root
returns-clause-root c = root_is_first

pub returns-clause-distinct : goal.returns-clause-distinct
returns-clause-distinct c = list_is_distinct

pub returns-clause-closed : goal.returns-clause-closed
returns-clause-closed c = list_is_closed
