-- What is promised of the making of a store.
use Rattle.std.specs.Prelude.{◌≡◌, ◌⊎◌, Result, IsErrOf}
use Rattle.host_model.specs.declared.side.Side.TheVariants.{Left, Right}
use Rattle.host_model.specs.declared.host.Host.{Ghosts}
use Rattle.host_model.specs.Hosts.{NowOf, MeetsAll}
use Rattle.pair_store.specs.Moments.{EndsUnsynced, OpensInTwoPhases, IsMaking}
use Rattle.pair_store.specs.Repair.{IsUnwritten}
use Rattle.client_state.specs.declared.client_state.ClientState.{ClientState}
use Rattle.client_state.specs.Encoding.{encoding}
use Rattle.client_store.specs.declared.faults.MakeFault.{MakeFault}
use Rattle.client_store.specs.declared.faults.MakeFault.TheVariants.{DiskFault, OutOfMemory}
use Rattle.client_store.specs.Store.{IsAbsent}

-- The phases of a making that found no store, with a host between the opening and what is written. Until both sides are synced nothing is written, and each image is one of the start. From there the right side is closed, then the left one, and then the journal of s is made on the left one, each when the one before is on the disk
pub record MakesInPhases {H : Type 0} (h : Ghosts H) (s : ClientState) (start new : H) : Type 0 where
  pub absent : IsAbsent (h.reads start Left) (h.reads start Right)
  pub synced : H
  pub first : MeetsAll h start synced (NowOf h start)
  pub unwritten : IsUnwritten h start synced
  pub second : MeetsAll h synced new (IsMaking h synced (encoding s))

-- Such a making; or an opening and no more, as far as the disk lets it; or nothing at all, where memory is wanting before
abbrev pub MakePhases : {H T : Type 0} → Ghosts H → ClientState → H → H → Result T MakeFault → Type 0
MakePhases h s start new result = MakesInPhases h s start new ⊎ (OpensInTwoPhases h start new ⊎ ((IsErrOf result DiskFault × EndsUnsynced h start new) ⊎ (IsErrOf result OutOfMemory × (new ≡ start))))
