use Rattle.json_tree.specs.Equals.{json_eq-Decides}
use Rattle.json_tree.proofs.laws.equal_values_are_one.Goals as goal

pub returns : goal.returns
returns c = json_eq-Decides
