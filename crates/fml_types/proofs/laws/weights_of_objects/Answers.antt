use Rattle.fml_types.proofs.Weighing.{weights_are_of_shares, weights_are_heavier, cycles_have_none}
use Rattle.fml_types.proofs.laws.weights_of_objects.Goals as goal

pub returns-clause-of_shares : goal.returns-clause-of_shares
returns-clause-of_shares c = weights_are_of_shares

pub returns-clause-heavier : goal.returns-clause-heavier
returns-clause-heavier c = weights_are_heavier

pub returns-clause-none : goal.returns-clause-none
returns-clause-none c = cycles_have_none
