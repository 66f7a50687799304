use Rattle.jexl_value.proofs.Found.{get_member-with}
use Rattle.jexl_value.proofs.laws.names_are_found.Goals as goal

pub returns : goal.returns
returns c = get_member-with
