use Rattle.fml_types.proofs.Chains.{heights_are_too_high}
use Rattle.fml_types.proofs.Needing.{heights_are_one_more, heights_are_higher, heights_are_endless}
use Rattle.fml_types.proofs.laws.needs_of_objects.Goals as goal

pub returns-clause-one_more : goal.returns-clause-one_more
returns-clause-one_more c = heights_are_one_more

pub returns-clause-higher : goal.returns-clause-higher
returns-clause-higher c = heights_are_higher

pub returns-clause-endless : goal.returns-clause-endless
returns-clause-endless c = heights_are_endless

pub returns-clause-too_high : goal.returns-clause-too_high
returns-clause-too_high c = heights_are_too_high
