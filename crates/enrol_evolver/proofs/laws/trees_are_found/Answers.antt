use Rattle.enrol_evolver.proofs.Trees.{has_tree, tree_is}
use Rattle.enrol_evolver.proofs.laws.trees_are_found.Goals as goal

pub returns : goal.returns
returns c text tree = (tree_is text tree, has_tree text tree)
