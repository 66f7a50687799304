-- The exit number of each status, and the status of each fault.
use Rattle.std.specs.Prelude.{ℕ, Result, Ok, Err}
use Rattle.client_core.specs.declared.client.Client.{Client}
use Rattle.pair_store.specs.declared.faults.PairFault.{PairFault}
use Rattle.pair_store.specs.declared.faults.PairFault.TheVariants as store
use Rattle.client_store.specs.declared.faults.MakeFault.{MakeFault}
use Rattle.client_store.specs.declared.faults.MakeFault.TheVariants as make
use Rattle.client_steps.specs.declared.faults.StepFault.{StepFault}
use Rattle.client_steps.specs.declared.faults.StepFault.TheVariants as step
use Rattle.session_run.specs.declared.faults.RunFault.{RunFault}
use Rattle.session_run.specs.declared.faults.RunFault.TheVariants as run
use Rattle.session_run.specs.declared.script.ScriptFault.{ScriptFault}
use Rattle.session_run.specs.declared.script.ScriptFault.TheVariants as script
use Rattle.session_run.specs.declared.status.RunStatus.{RunStatus}
use Rattle.session_run.specs.declared.status.RunStatus.TheVariants.{Done, Usage, ScriptTooLong, NoStore, AlreadyStore, BadStore}
use Rattle.session_run.specs.declared.status.RunStatus.TheVariants.{SourceFault, ShelfFault, DiskFault, SayFault, OutOfMemory}

abbrev pub code_of : RunStatus → ℕ
code_of Done = 0
code_of Usage = 2
code_of ScriptTooLong = 3
code_of NoStore = 4
code_of AlreadyStore = 5
code_of BadStore = 6
code_of SourceFault = 8
code_of ShelfFault = 9
code_of DiskFault = 10
code_of SayFault = 11
code_of OutOfMemory = 12

abbrev pub of_script : ScriptFault → RunStatus
of_script script.TooLong = ScriptTooLong
of_script script.SourceFault = SourceFault
of_script script.OutOfMemory = OutOfMemory

abbrev pub of_store : PairFault → RunStatus
of_store store.NoStore = NoStore
of_store store.BadStore = BadStore
of_store store.DiskFault = DiskFault
of_store store.OutOfMemory = OutOfMemory

abbrev pub of_making : MakeFault → RunStatus
of_making make.AlreadyStore = AlreadyStore
of_making make.BadStore = BadStore
of_making make.DiskFault = DiskFault
of_making make.OutOfMemory = OutOfMemory

abbrev pub of_step : StepFault → RunFault
of_step step.ShelfFault = run.ShelfFault
of_step step.OutOfMemory = run.OutOfMemory

abbrev pub of_run : RunFault → RunStatus
of_run run.ShelfFault = ShelfFault
of_run run.DiskFault = DiskFault
of_run run.SayFault = SayFault
of_run run.OutOfMemory = OutOfMemory

-- of a run that hands its client out where all was done
abbrev pub status_of : Result Client RunStatus → RunStatus
status_of (Ok client) = Done
status_of (Err status) = status

-- of a drill whose lines ended with this one: its store was made, so where that is gone it is damaged
abbrev pub of_drill : RunStatus → RunStatus
of_drill NoStore = BadStore
of_drill status = status

-- ---- which statuses a private call has, whatever the shelf and the host tell

-- a run of lines over a store
abbrev pub IsOfLines : RunStatus → Type 0
IsOfLines Usage = ⊥
IsOfLines AlreadyStore = ⊥
IsOfLines ScriptTooLong = ⊥
IsOfLines SourceFault = ⊥
IsOfLines status = Unit {0}

-- a run
abbrev pub IsOfRun : RunStatus → Type 0
IsOfRun Usage = ⊥
IsOfRun AlreadyStore = ⊥
IsOfRun status = Unit {0}

-- the making of a store, and so a drill
abbrev pub IsOfMaking : RunStatus → Type 0
IsOfMaking Usage = ⊥
IsOfMaking ScriptTooLong = ⊥
IsOfMaking SourceFault = ⊥
IsOfMaking ShelfFault = ⊥
IsOfMaking NoStore = ⊥
IsOfMaking status = Unit {0}
