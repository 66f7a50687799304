-- What is promised of the opening of a store.
use Rattle.std.specs.Prelude.{◌≡◌, ◌⊎◌, ◌≤◌, ◌+◌, ℕ, List, Result, Ok, Err, IsOk, IsErrOf, IsTrue}
use Rattle.host_model.specs.declared.side.Side.TheVariants.{Left, Right}
use Rattle.host_model.specs.declared.host.Host.{Ghosts}
use Rattle.host_model.specs.Hosts.{NowOf, MeetsAll}
use Rattle.host_model.specs.Sides.{on}
use Rattle.host_model.specs.declared.side.Side.{Side}
use Rattle.pair_store.specs.Moments.{IsOpening, IsReadOrRepaired, EndsUnsynced}
use Rattle.pair_store.specs.Moments as sides
use Rattle.pair_store.specs.Repair.{repair_cost, IsUnwritten, IsLeftByOpening}
use Rattle.pair_store.specs.Store.{HasFailed}
use Rattle.client_state.specs.declared.client_state.ClientState.{ClientState}
use Rattle.client_state.specs.Forms.{needs_migration}
use Rattle.pair_store.specs.declared.faults.PairFault.{PairFault}
use Rattle.pair_store.specs.declared.faults.PairFault.TheVariants.{NoStore, BadStore, DiskFault, OutOfMemory}
use Rattle.client_store.specs.Finds.{OpenFinds}
use Rattle.client_store.specs.Migrations.{OpensWith}
use Rattle.client_store.specs.OpenStore.{end_of, IsOpenOn, HasGateOn, AreDurable}
use Rattle.client_store.specs.Store.{StandsFor, KeptFor, IsAbsent, IsBad}
use Rattle.client_store.specs.Stored.{StoredState}

-- ---- its moments

-- the rows that reads gave at the start are the old form of a state, and are written anew. Where that pair was kept for the state, this one is
pub record IsMigrating {H : Type 0} (h : Ghosts H) (start : H) (l r u : List ℕ) : Type 0 where
  pub state : ClientState
  pub stands : StandsFor (h.reads start Left) (h.reads start Right) state
  pub old : IsTrue (needs_migration stands.stored)
  pub kept : KeptFor (h.reads start Left) (h.reads start Right) state → KeptFor l r state
  pub text : u ≡ h.said start

-- what reads gave at the start, but for the first byte of the earlier of two open sides, or what a migration makes of it
abbrev pub IsReadOrMigrating : {H : Type 0} → Ghosts H → H → List ℕ → List ℕ → List ℕ → Type 0
IsReadOrMigrating h start l r u = IsReadOrRepaired h start l r u ⊎ IsMigrating h start l r u

-- what reads give once the repair is done, or what a migration makes of it
abbrev pub IsLeftOrMigrating : {H : Type 0} → Ghosts H → H → H → List ℕ → List ℕ → List ℕ → Type 0
IsLeftOrMigrating h start repaired l r u = (((side : Side) → on side l r ≡ h.reads repaired side) × (u ≡ h.said start)) ⊎ IsMigrating h start l r u

-- The three phases of an opening, with a host behind each of the first two. Until both sides are synced nothing is written, and each image is one of the start. Then, until the earlier of two open sides is closed, each is what reads gave, but for that side's first byte. Last come the images of a migration, where the rows are an old form: it begins when the repair is on the disk
pub record OpensInThreePhases {H : Type 0} (h : Ghosts H) (start new : H) : Type 0 where
  pub synced : H
  pub first : MeetsAll h start synced (NowOf h start)
  pub unwritten : IsUnwritten h start synced
  pub repaired : H
  pub second : MeetsAll h synced repaired (IsReadOrRepaired h start)
  pub left : IsLeftByOpening h start repaired
  pub third : MeetsAll h repaired new (IsLeftOrMigrating h start repaired)

-- all three; or the first one alone, or the first two, where the disk has failed in the last of them
abbrev pub OpensInPhases : {H T : Type 0} → Ghosts H → H → H → Result T PairFault → Type 0
OpensInPhases h start new result = (IsErrOf result DiskFault × (EndsUnsynced h start new ⊎ sides.OpensInTwoPhases h start new)) ⊎ OpensInThreePhases h start new

-- the last two phases seen as one: from the syncs on each image is what reads gave, repaired and migrated
pub record OpensInTwoPhases {H : Type 0} (h : Ghosts H) (start new : H) : Type 0 where
  pub synced : H
  pub first : MeetsAll h start synced (NowOf h start)
  pub unwritten : IsUnwritten h start synced
  pub second : MeetsAll h synced new (IsReadOrMigrating h start)

-- ---- its end

-- the store is open: it has the state for which the pair stood that reads gave
pub record IsOpened {H : Type 0} (h : Ghosts H) (store : StoredState) (start new : H) : Type 0 where
  pub stands : StandsFor (h.reads start Left) (h.reads start Right) store.state
  pub known : (s : ClientState) → StandsFor (h.reads start Left) (h.reads start Right) s → store.state ≡ s
  pub open_on : IsOpenOn h store new
  -- each image is what reads give
  pub settled : AreDurable h new
  -- a byte stands where the next record begins, if one stood there before or a migration was needed
  pub gate : (s : ClientState) → KeptFor (h.reads start Left) (h.reads start Right) s → HasGateOn h store new
  pub gate_made : (s : ClientState) (found : StandsFor (h.reads start Left) (h.reads start Right) s) → IsTrue (needs_migration found.stored) → HasGateOn h store new
  -- how many bytes were written, and where the next record begins
  pub bytes : ℕ
  pub opens : OpensWith (h.reads start Left) (h.reads start Right) store.state (end_of store) bytes
  pub written : h.written new ≡ h.written start + bytes

-- nothing is said, and no byte is written but that of a repair
pub record IsOnlyRepaired {H : Type 0} (h : Ghosts H) (start new : H) : Type 0 where
  pub moments : MeetsAll h start new (IsOpening h start)
  pub most : h.written new ≤ h.written start + repair_cost (h.reads start Left) (h.reads start Right)

-- what stands of a pair that wasn't opened, by the fault
abbrev pub OpenLeaves : {H : Type 0} → Ghosts H → H → H → PairFault → Type 0
OpenLeaves h start new NoStore = IsUnwritten h start new
OpenLeaves h start new BadStore = IsLeftByOpening h start new × IsOnlyRepaired h start new
OpenLeaves h start new OutOfMemory = IsLeftByOpening h start new × IsOnlyRepaired h start new
OpenLeaves h start new DiskFault = Unit {0}

-- the store is not open
pub record IsUnopened {H : Type 0} (h : Ghosts H) (fault : PairFault) (start new : H) : Type 0 where
  pub finds : OpenFinds (h.reads start Left) (h.reads start Right) fault
  pub leaves : OpenLeaves h start new fault
  -- what the opening would write, at most; and only a repair where no state stands
  pub most : (s : ClientState) (place bytes : ℕ) → OpensWith (h.reads start Left) (h.reads start Right) s place bytes → h.written new ≤ h.written start + bytes
  pub none : ((s : ClientState) → StandsFor (h.reads start Left) (h.reads start Right) s → ⊥) → IsOnlyRepaired h start new

abbrev pub OpenEnds : {H : Type 0} → Ghosts H → H → H → Result StoredState PairFault → Type 0
OpenEnds h start new (Ok store) = IsOpened h store start new
OpenEnds h start new (Err fault) = IsUnopened h fault start new

-- which answer each pair has, unless the disk failed or memory was wanting
pub record OpenJudges {T : Type 0} (l r : List ℕ) (result : Result T PairFault) : Type 0 where
  pub opened : (s : ClientState) → StandsFor l r s → IsOk result ⊎ HasFailed result
  pub no_store : IsAbsent l r → IsErrOf result NoStore ⊎ HasFailed result
  pub bad_store : IsBad l r → IsErrOf result BadStore ⊎ HasFailed result
