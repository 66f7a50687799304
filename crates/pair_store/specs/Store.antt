-- What a pair on a host stands for.
use Rattle.std.specs.Prelude.{◌≡◌, ◌⊎◌, ◌<◌, ◌+◌, ℕ, List, ◌∷◌, length, drop, Result, IsErrOf}
use Rattle.host_model.specs.declared.host.Host.{Ghosts}
use Rattle.host_model.specs.declared.side.Side.{Side}
use Rattle.host_model.specs.declared.side.Side.TheVariants.{Left}
use Rattle.host_model.specs.Hosts.{IsDurable}
use Rattle.host_model.specs.Images.{overwritten}
use Rattle.host_model.specs.Sides.{other}
use Rattle.gate_journal.specs.Journal.{Stands}
use Rattle.gate_journal.specs.OpenSide.{OpenSide}
use Rattle.gate_journal.specs.Records.{made_on, recorded, IsClosed, IsShut}
use Rattle.pair_store.specs.Pair.{generation_after}
use Rattle.pair_store.specs.declared.faults.PairFault.{PairFault}
use Rattle.pair_store.specs.declared.faults.PairFault.TheVariants.{DiskFault, OutOfMemory}

-- Its side is open with these payloads, up to its place, and the other one is closed with at least one byte. Each image
-- of both is what reads give.
pub record PairStands {H : Type 0} (h : Ghosts H) (store : OpenSide) (host : H) (payloads : List (List ℕ)) : Type 0 where
  pub side : Stands h store host payloads
  pub some : 0 < length payloads
  pub shut : IsShut (h.reads host (other store.side))
  pub only : IsDurable h host (other store.side)

-- and its side has a byte at its place
pub record PairStandsWithGate {H : Type 0} (h : Ghosts H) (store : OpenSide) (host : H) (payloads : List (List ℕ)) : Type 0 where
  pub stands : PairStands h store host payloads
  pub gate : store.place < length (h.reads host store.side)

-- the store of a pair that is just made with this payload
abbrev pub store_made : List ℕ → OpenSide
store_made first = record { side = Left; generation = 0; place = length first + 14 }

-- what an append makes of both sides: the record, and a closed gate behind it
pub record IsAppended {H : Type 0} (h : Ghosts H) (store : OpenSide) (next : List ℕ) (old new : H) : Type 0 where
  pub here : h.reads new store.side ≡ overwritten (h.reads old store.side) store.place (recorded next)
  pub there : h.reads new (other store.side) ≡ h.reads old (other store.side)

-- what a checkpoint makes of them: this side is closed by a first byte 0, and the journal of the whole stands on the other one
pub record IsTurned {H : Type 0} (h : Ghosts H) (store : OpenSide) (whole : List ℕ) (old new : H) : Type 0 where
  pub here : h.reads new store.side ≡ 0 ∷ drop 1 (h.reads old store.side)
  pub there : h.reads new (other store.side) ≡ made_on (generation_after store.generation) whole (h.reads old (other store.side))

-- neither side is open in any image
abbrev pub IsClosedOn : {H : Type 0} → Ghosts H → H → Type 0
IsClosedOn h host = (side : Side) (image : List ℕ) → h.images host side image → IsClosed image

-- an opening that the disk or want of memory has ended
abbrev pub HasFailed : {T : Type 0} → Result T PairFault → Type 0
HasFailed result = IsErrOf result DiskFault ⊎ IsErrOf result OutOfMemory
