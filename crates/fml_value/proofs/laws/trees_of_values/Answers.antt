use Rattle.fml_value.proofs.Fitted.{value_fits}
use Rattle.fml_value.proofs.OneValue.{one_value}
use Rattle.fml_value.proofs.Taken.{taken}
use Rattle.fml_value.proofs.laws.trees_of_values.Goals as goal

pub returns-clause-one : goal.returns-clause-one
returns-clause-one c = one_value

pub returns-clause-taken : goal.returns-clause-taken
returns-clause-taken c = taken

pub returns-clause-fit : goal.returns-clause-fit
returns-clause-fit c = λ types t v order h. value_fits types order t v h
