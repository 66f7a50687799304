-- `take_change` ends, since there are fewer rows on a side.
use Rattle.std.proofs.Common.{length}
use Rattle.row_batches.specs.Trees.{rows_in}
use Rattle.row_batches.proofs.tree_changes.+take_change.Given as goal

abbrev pub decreases-take_change : goal.decreases-take_change
decreases-take_change l = length (rows_in l.tree.now)
