-- Why no store is made.
use Rattle.std.specs.Prelude.{Option, None, Some, Result, Ok, Err}
use Rattle.row_store.specs.declared.faults.RowMakeFault.{RowMakeFault}
use Rattle.row_store.specs.declared.faults.RowMakeFault.TheVariants as rows_making
use Rattle.pair_store.specs.declared.faults.PairFault.{PairFault}
use Rattle.pair_store.specs.declared.faults.PairFault.TheVariants as opening
use Rattle.client_store.specs.declared.faults.MakeFault.{MakeFault}
use Rattle.client_store.specs.declared.faults.MakeFault.TheVariants as making
use Rattle.client_store.specs.declared.found_store.FoundStore.{FoundStore}

-- by the answer of the opening before: nothing stands in the way where that found no store
abbrev pub refusal : Result FoundStore PairFault → Option MakeFault
refusal (Ok found) = Some making.AlreadyStore
refusal (Err opening.NoStore) = None
refusal (Err opening.BadStore) = Some making.BadStore
refusal (Err opening.DiskFault) = Some making.DiskFault
refusal (Err opening.OutOfMemory) = Some making.OutOfMemory

-- by the fault of the rows
abbrev pub making_fault : RowMakeFault → MakeFault
making_fault rows_making.DiskFault = making.DiskFault
making_fault rows_making.OutOfMemory = making.OutOfMemory
