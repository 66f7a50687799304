use Rattle.std.proofs.Common.{◌≡◌, ◌++◌, map}
use Rattle.row_batches.specs.declared.change.RowChange.TheVariants.{Put}
use Rattle.row_batches.proofs.batch.puts_of.Given as goal

abbrev pub invariant-loop-row : goal.invariant-loop-row
invariant-loop-row l = l.changes ++ map Put l.row-iterator.rest.items ≡ map Put l.fn.rows
