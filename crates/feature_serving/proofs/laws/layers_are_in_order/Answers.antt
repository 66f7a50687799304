use Rattle.feature_serving.proofs.Orders.{layers_rise, layers_moved, one_order}
use Rattle.feature_serving.proofs.laws.layers_are_in_order.Goals as goal

pub returns-clause-in_order : goal.returns-clause-in_order
returns-clause-in_order c = layers_rise

pub returns-clause-of_rows : goal.returns-clause-of_rows
returns-clause-of_rows c = layers_moved

pub returns-clause-one : goal.returns-clause-one
returns-clause-one c = one_order
