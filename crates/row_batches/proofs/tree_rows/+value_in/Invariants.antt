-- `value_in` ends, since there are fewer rows on a side.
use Rattle.std.proofs.Common.{length}
use Rattle.row_batches.specs.Trees.{rows_in}
use Rattle.row_batches.proofs.tree_rows.+value_in.Given as goal

abbrev pub decreases-value_in : goal.decreases-value_in
decreases-value_in l = length (rows_in l.tree.now)
