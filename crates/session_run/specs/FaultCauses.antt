-- The cause of each fault, by its count. This holds of every shelf and host, also of one that tells nothing; only what has `tells` as its
-- premise asks for more.
use Rattle.std.specs.Prelude.{◌≡◌, ◌≤◌, ℕ, List}
use Rattle.host_model.specs.Causes.{Rose}
use Rattle.host_model.specs.declared.host.Host.{Ghosts}
use Rattle.host_model.specs.declared.shelf.Shelf as shelves
use Rattle.session_run.specs.declared.faults.RunFault.{RunFault}
use Rattle.session_run.specs.declared.faults.RunFault.TheVariants.{ShelfFault, DiskFault, SayFault}
use Rattle.session_run.specs.declared.status.RunStatus.{RunStatus}
use Rattle.session_run.specs.Statuses.{of_run}

-- the status is that of this fault
abbrev pub IsStatusOf : RunStatus → RunFault → Type 0
IsStatusOf status fault = status ≡ of_run fault

-- what a call leaves of a host, where `is fault` says that it has ended with this fault
pub record HasHostCauses {H : Type 0} (h : Ghosts H) (is : RunFault → Type 0) (old new : H) : Type 0 where
  -- each fault comes only where its count rose
  pub disk : is DiskFault → Rose (h.disk_faults old) (h.disk_faults new)
  pub say : is SayFault → Rose (h.say_faults old) (h.say_faults new)
  -- and where its fault has not ended the call, the count is as before
  pub disk_quiet : ¬ is DiskFault → h.disk_faults new ≡ h.disk_faults old
  pub say_quiet : ¬ is SayFault → h.say_faults new ≡ h.say_faults old
  -- and no count falls
  pub disk_later : h.disk_faults old ≤ h.disk_faults new
  pub say_later : h.say_faults old ≤ h.say_faults new

-- what it leaves of a shelf
pub record HasShelfCauses {F : Type 0} (f : shelves.Ghosts F) (is : RunFault → Type 0) (old new : F) : Type 0 where
  pub shelf : is ShelfFault → Rose (f.faults old) (f.faults new)
  -- the count is as before where no fault of the shelf has ended the call
  pub quiet : ¬ is ShelfFault → f.faults new ≡ f.faults old
  pub later : f.faults old ≤ f.faults new
  -- no file is changed
  pub files : f.tells → (name : List ℕ) → f.file new name ≡ f.file old name
