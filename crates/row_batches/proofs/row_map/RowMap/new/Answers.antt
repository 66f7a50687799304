use Rattle.std.proofs.Common.{sym, subst}
use Rattle.std.specs.List.Sorted.{IsStrictlySortedBy}
use Rattle.row_batches.specs.RowRoom.{AreSoundRows}
use Rattle.row_batches.proofs.row_map.RowMap.new.Goals as goal

pub from_rows-requires : goal.from_rows-requires
unfolding IsStrictlySortedBy
from_rows-requires c = subst AreSoundRows (sym c.new.ensures) (record { rise = tt; fields = tt })
