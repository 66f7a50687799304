-- What the pair of sides was, as the answer of a call tells it.
use Rattle.std.specs.Prelude.{◌⊎◌, ℕ, List, Result, Ok, Err, IsErrOf}
use Rattle.pair_store.specs.declared.faults.PairFault.{PairFault}
use Rattle.pair_store.specs.declared.faults.PairFault.TheVariants as opening
use Rattle.client_store.specs.declared.faults.MakeFault.{MakeFault}
use Rattle.client_store.specs.declared.faults.MakeFault.TheVariants as making
use Rattle.client_store.specs.Store.{IsStore, IsAbsent, IsBad}

-- of an opening that opened nothing
abbrev pub OpenFinds : List ℕ → List ℕ → PairFault → Type 0
OpenFinds l r opening.NoStore = IsAbsent l r
OpenFinds l r opening.BadStore = IsBad l r
OpenFinds l r opening.DiskFault = Unit {0}
OpenFinds l r opening.OutOfMemory = Unit {0}

-- of a making
abbrev pub MakeFinds : {T : Type 0} → List ℕ → List ℕ → Result T MakeFault → Type 0
MakeFinds l r (Ok made) = IsAbsent l r
MakeFinds l r (Err making.AlreadyStore) = IsStore l r
MakeFinds l r (Err making.BadStore) = IsBad l r
MakeFinds l r (Err making.DiskFault) = Unit {0}
MakeFinds l r (Err making.OutOfMemory) = Unit {0}

-- a making that the disk or want of memory has ended
abbrev pub MakeFailed : {T : Type 0} → Result T MakeFault → Type 0
MakeFailed result = IsErrOf result making.DiskFault ⊎ IsErrOf result making.OutOfMemory
