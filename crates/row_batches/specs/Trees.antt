-- The rows of a search tree.
use Rattle.std.specs.Prelude.{List, [], ◌∷◌, ◌++◌}
use Rattle.row_batches.specs.declared.store_row.StoreRow.{StoreRow}
use Rattle.row_batches.specs.declared.tree.Fork.{Fork}
use Rattle.row_batches.specs.declared.tree.Tree.{Tree}
use Rattle.row_batches.specs.declared.tree.Tree.TheVariants.{Leaf, Fork'}

-- the rows in a tree, in the order of their keys
abbrev pub rows_in : Tree → List StoreRow
rows_in Leaf = []
rows_in (Fork' p below row above height) = rows_in below ++ row ∷ rows_in above

-- those of a fork
abbrev pub rows_at : Fork → List StoreRow
rows_at f = rows_in f.below ++ f.row ∷ rows_in f.above
