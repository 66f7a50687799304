-- The cause of a fault, as that of the call that met it.
use Rattle.std.proofs.Common.{◌≡◌, ◌≤◌, ℕ, List, refl, sym, ◌∙◌, ap, subst, arith, Result, Ok, Err, IsErrAnd}
use Rattle.std.specs.Prelude.{IsErrOf}
use Rattle.host_model.specs.Causes.{Rose}
use Rattle.host_model.specs.declared.host.Host.{Ghosts}
use Rattle.host_model.specs.declared.shelf.Shelf as shelves
use Rattle.client_steps.specs.declared.faults.StepFault.{StepFault}
use Rattle.client_steps.specs.declared.faults.StepFault.TheVariants as step
use Rattle.pair_store.specs.declared.faults.PairFault.{PairFault}
use Rattle.pair_store.specs.declared.faults.PairFault.TheVariants as store
use Rattle.client_store.specs.declared.faults.MakeFault.{MakeFault}
use Rattle.client_store.specs.declared.faults.MakeFault.TheVariants as make
use Rattle.session_run.specs.declared.faults.RunFault.{RunFault}
use Rattle.session_run.specs.declared.faults.RunFault.TheVariants as run
use Rattle.session_run.specs.declared.status.RunStatus.{RunStatus}
use Rattle.session_run.specs.declared.status.RunStatus.TheVariants.{Done, NoStore, AlreadyStore, BadStore, ShelfFault, DiskFault, SayFault, OutOfMemory}
use Rattle.session_run.specs.FaultCauses.{IsStatusOf, HasHostCauses, HasShelfCauses}
use Rattle.session_run.specs.Statuses.{of_run, of_step, of_store, of_making}
use Rattle.session_run.proofs.Ending.{err_is}

-- each fault has its own status
abbrev fault_of : RunStatus → RunFault
fault_of ShelfFault = run.ShelfFault
fault_of DiskFault = run.DiskFault
fault_of SayFault = run.SayFault
fault_of status = run.OutOfMemory

own_status : (fault : RunFault) → fault_of (of_run fault) ≡ fault
own_status run.ShelfFault = refl
own_status run.DiskFault = refl
own_status run.SayFault = refl
own_status run.OutOfMemory = refl

same_fault : (fault other : RunFault) → IsStatusOf (of_run fault) other → fault ≡ other
same_fault fault other is = sym (own_status fault) ∙ ap fault_of is ∙ own_status other

abbrev the_fault : Result (Unit {0}) RunFault → RunFault
the_fault (Ok done) = run.OutOfMemory
the_fault (Err fault) = fault

status_is : (fault other : RunFault) → IsErrOf {T = Unit {0}} (Err fault) other → IsStatusOf (of_run fault) other
status_is fault other is = ap (λ (result : Result (Unit {0}) RunFault). of_run (the_fault result)) is

pub make_fault_is : (fault other : MakeFault) → IsErrOf {T = Unit {0}} (Err fault) other → fault ≡ other
make_fault_is fault other is = cc

module _ {F : Type 0} (f : shelves.Ghosts F) where
  -- one call after the other
  pub shelf_behind : (is : RunFault → Type 0) (old mid new : F) → f.faults mid ≡ f.faults old → (f.tells → (name : List ℕ) → f.file mid name ≡ f.file old name) → HasShelfCauses f is mid new → HasShelfCauses f is old new
  shelf_behind is old mid new same files causes = record {
    shelf = λ fault. omega (arith, same, causes.shelf fault);
    quiet = λ other. causes.quiet other ∙ same;
    later = omega (arith, same, causes.later);
    files = λ tells name. causes.files tells name ∙ files tells name;
  }

  -- the shelf has not failed
  pub unfailed_causes : (is : RunFault → Type 0) (old new : F) → (is run.ShelfFault → ⊥) → f.faults new ≡ f.faults old → (f.tells → (name : List ℕ) → f.file new name ≡ f.file old name) → HasShelfCauses f is old new
  unfailed_causes is old new none same files = record { shelf = λ fault. absurd (none fault); quiet = λ other. same; later = omega (arith, same); files = files }

  -- no step is prepared
  pub unprepared_causes : {T : Type 0} (fault : StepFault) (old new : F) → (IsErrOf {T = T} (Err fault) step.ShelfFault → Rose (f.faults old) (f.faults new)) → (¬ IsErrOf {T = T} (Err fault) step.ShelfFault → f.faults new ≡ f.faults old)
      → f.faults old ≤ f.faults new → (f.tells → (name : List ℕ) → f.file new name ≡ f.file old name) → HasShelfCauses f (IsErrOf {T = Unit {0}} (Err (of_step fault))) old new
  unprepared_causes step.ShelfFault old new rose quiet later files = record { shelf = λ is. rose refl; quiet = λ other. absurd (other refl); later = later; files = files }
  unprepared_causes step.OutOfMemory old new rose quiet later files = record { shelf = λ is. absurd cc; quiet = λ other. quiet (λ is. absurd cc); later = later; files = files }

  -- the shelf was not asked
  pub unasked_causes : (is : RunFault → Type 0) (shelf : F) → (is run.ShelfFault → ⊥) → HasShelfCauses f is shelf shelf
  unasked_causes is shelf none = record { shelf = λ fault. absurd (none fault); quiet = λ other. refl; later = omega arith; files = λ tells name. refl }

  -- nor was it where the store was not opened
  pub unopened_causes : (fault : PairFault) (shelf : F) → HasShelfCauses f (IsStatusOf (of_store fault)) shelf shelf
  unopened_causes store.NoStore shelf = unasked_causes (IsStatusOf NoStore) shelf (λ is. absurd cc)
  unopened_causes store.BadStore shelf = unasked_causes (IsStatusOf BadStore) shelf (λ is. absurd cc)
  unopened_causes store.DiskFault shelf = unasked_causes (IsStatusOf DiskFault) shelf (λ is. absurd cc)
  unopened_causes store.OutOfMemory shelf = unasked_causes (IsStatusOf OutOfMemory) shelf (λ is. absurd cc)

  -- a run ends with the status of its lines' fault
  pub shelf_causes_of : (fault : RunFault) (old new : F) → HasShelfCauses f (IsErrOf {T = Unit {0}} (Err fault)) old new → HasShelfCauses f (IsStatusOf (of_run fault)) old new
  shelf_causes_of fault old new causes = record {
    shelf = λ is. causes.shelf (ap Err (same_fault fault run.ShelfFault is));
    quiet = λ other. causes.quiet (λ is. other (status_is fault run.ShelfFault is));
    later = causes.later;
    files = causes.files;
  }

module _ {H : Type 0} (h : Ghosts H) where
  module _ (old mid new : H) (disk : h.disk_faults mid ≡ h.disk_faults old) (say : h.say_faults mid ≡ h.say_faults old) where
    -- a call behind one in which nothing failed
    pub causes_behind : (is : RunFault → Type 0) → HasHostCauses h is mid new → HasHostCauses h is old new
    causes_behind is causes = record {
      disk = λ fault. omega (arith, disk, causes.disk fault);
      say = λ fault. omega (arith, say, causes.say fault);
      disk_quiet = λ other. causes.disk_quiet other ∙ disk;
      say_quiet = λ other. causes.say_quiet other ∙ say;
      disk_later = omega (arith, disk, causes.disk_later);
      say_later = omega (arith, say, causes.say_later);
    }

    pub host_causes_of : (fault : RunFault) → HasHostCauses h (IsErrOf {T = Unit {0}} (Err fault)) mid new → HasHostCauses h (IsStatusOf (of_run fault)) old new
    host_causes_of fault causes = record {
      disk = λ is. omega (arith, disk, causes.disk (ap Err (same_fault fault run.DiskFault is)));
      say = λ is. omega (arith, say, causes.say (ap Err (same_fault fault run.SayFault is)));
      disk_quiet = λ other. causes.disk_quiet (λ is. other (status_is fault run.DiskFault is)) ∙ disk;
      say_quiet = λ other. causes.say_quiet (λ is. other (status_is fault run.SayFault is)) ∙ say;
      disk_later = omega (arith, disk, causes.disk_later);
      say_later = omega (arith, say, causes.say_later);
    }

  module _ (old new : H) where
    -- a write has failed
    pub unwritten_causes : h.disk_faults old ≤ h.disk_faults new → Rose (h.disk_faults old) (h.disk_faults new) → h.say_faults new ≡ h.say_faults old → (result : Result (Unit {0}) RunFault) → IsErrAnd result (λ f. f ≡ run.DiskFault)
        → HasHostCauses h (IsErrOf result) old new
    unwritten_causes later rose say result and =
        subst (λ (r : Result (Unit {0}) RunFault). HasHostCauses h (IsErrOf r) old new) (sym (err_is result run.DiskFault and))
        (record { disk = λ is. rose; say = λ is. absurd cc; disk_quiet = λ other. absurd (other refl); say_quiet = λ other. say; disk_later = later; say_later = omega (arith, say) })

    -- the output has failed
    module _ (disk : h.disk_faults new ≡ h.disk_faults old) (later : h.say_faults old ≤ h.say_faults new) (rose : Rose (h.say_faults old) (h.say_faults new)) where
      pub unsaid_causes : (result : Result (Unit {0}) RunFault) → IsErrAnd result (λ f. f ≡ run.SayFault) → HasHostCauses h (IsErrOf result) old new
      unsaid_causes result and =
          subst (λ (r : Result (Unit {0}) RunFault). HasHostCauses h (IsErrOf r) old new) (sym (err_is result run.SayFault and))
          (record { disk = λ is. absurd cc; say = λ is. rose; disk_quiet = λ other. disk; say_quiet = λ other. absurd (other refl); disk_later = omega (arith, disk); say_later = later })

      pub said_causes : HasHostCauses h (IsStatusOf SayFault) old new
      said_causes = record { disk = λ is. absurd cc; say = λ is. rose; disk_quiet = λ other. disk; say_quiet = λ other. absurd (other refl); disk_later = omega (arith, disk); say_later = later }

    -- all is done
    pub done_causes : h.disk_faults new ≡ h.disk_faults old → h.say_faults new ≡ h.say_faults old → HasHostCauses h (IsStatusOf Done) old new
    done_causes disk say = record { disk = λ is. absurd cc; say = λ is. absurd cc; disk_quiet = λ other. disk; say_quiet = λ other. say; disk_later = omega (arith, disk); say_later = omega (arith, say) }

    -- another end, at which the output was as before
    module _ (disk : h.disk_faults old ≤ h.disk_faults new) (say : h.say_faults new ≡ h.say_faults old) where
      quiet_causes : (status : RunStatus) → (status ≡ SayFault → ⊥) → (status ≡ DiskFault → Rose (h.disk_faults old) (h.disk_faults new)) → (¬ (status ≡ DiskFault) → h.disk_faults new ≡ h.disk_faults old)
          → HasHostCauses h (IsStatusOf status) old new
      quiet_causes status unsaid rose quiet = record { disk = rose; say = λ is. absurd (unsaid is); disk_quiet = quiet; say_quiet = λ other. say; disk_later = disk; say_later = omega (arith, say) }

      -- the store was not opened
      pub opening_causes : (fault : PairFault) → (fault ≡ store.DiskFault → Rose (h.disk_faults old) (h.disk_faults new)) → (¬ (fault ≡ store.DiskFault) → h.disk_faults new ≡ h.disk_faults old)
          → HasHostCauses h (IsStatusOf (of_store fault)) old new
      opening_causes store.NoStore rose quiet = quiet_causes NoStore (λ is. absurd cc) (λ is. absurd cc) (λ other. quiet (λ is. absurd cc))
      opening_causes store.BadStore rose quiet = quiet_causes BadStore (λ is. absurd cc) (λ is. absurd cc) (λ other. quiet (λ is. absurd cc))
      opening_causes store.DiskFault rose quiet = quiet_causes DiskFault (λ is. absurd cc) (λ is. rose refl) (λ other. absurd (other refl))
      opening_causes store.OutOfMemory rose quiet = quiet_causes OutOfMemory (λ is. absurd cc) (λ is. absurd cc) (λ other. quiet (λ is. absurd cc))

      -- it was not made
      pub making_causes_of : (fault : MakeFault) → (fault ≡ make.DiskFault → Rose (h.disk_faults old) (h.disk_faults new)) → (¬ (fault ≡ make.DiskFault) → h.disk_faults new ≡ h.disk_faults old)
          → HasHostCauses h (IsStatusOf (of_making fault)) old new
      making_causes_of make.AlreadyStore rose quiet = quiet_causes AlreadyStore (λ is. absurd cc) (λ is. absurd cc) (λ other. quiet (λ is. absurd cc))
      making_causes_of make.BadStore rose quiet = quiet_causes BadStore (λ is. absurd cc) (λ is. absurd cc) (λ other. quiet (λ is. absurd cc))
      making_causes_of make.DiskFault rose quiet = quiet_causes DiskFault (λ is. absurd cc) (λ is. rose refl) (λ other. absurd (other refl))
      making_causes_of make.OutOfMemory rose quiet = quiet_causes OutOfMemory (λ is. absurd cc) (λ is. absurd cc) (λ other. quiet (λ is. absurd cc))
