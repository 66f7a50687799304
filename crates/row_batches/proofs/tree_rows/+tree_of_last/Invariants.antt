-- `tree_of_last` ends, since the count falls.
use Rattle.row_batches.proofs.tree_rows.+tree_of_last.Given as goal

abbrev pub decreases-tree_of_last : goal.decreases-tree_of_last
decreases-tree_of_last l = l.count
