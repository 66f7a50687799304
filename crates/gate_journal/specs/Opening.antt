-- The moments of an opening of a side, and what it leaves of it.
use Rattle.std.specs.Prelude.{◌≡◌, ◌⊎◌, ◌↔◌, ℕ, List, Result, IsErrOf}
use Rattle.host_model.specs.declared.host.Host.{Ghosts}
use Rattle.host_model.specs.declared.side.Side.{Side}
use Rattle.host_model.specs.Hosts.{IsDurable, KeepsAll, MeetsAll, NowOf, StillAll}
use Rattle.host_model.specs.Sides.{other}
use Rattle.gate_journal.specs.declared.faults.OpenFault.{OpenFault}
use Rattle.gate_journal.specs.declared.faults.OpenFault.TheVariants.{DiskFault}

-- this side has the images of the start, and no other ones
abbrev pub HasSameImages : {H : Type 0} → Ghosts H → Side → H → H → Type 0
HasSameImages h side start new = (image : List ℕ) → h.images new side image ↔ h.images start side image

-- this side has one image, which is what reads gave at the start
pub record IsSettledOn {H : Type 0} (h : Ghosts H) (side : Side) (start new : H) : Type 0 where
  pub same : h.reads new side ≡ h.reads start side
  pub durable : IsDurable h new side

-- the side was synced. Until then each image was one of the start
pub record IsSynced {H : Type 0} (h : Ghosts H) (side : Side) (start new : H) : Type 0 where
  pub moments : MeetsAll h start new (NowOf h start)
  pub settled : IsSettledOn h side start new
  pub rest : KeepsAll h (other side) start new
  pub cost : h.written new ≡ h.written start

-- the disk has failed before the side was synced: at each moment each image was one of the start, and all of them still are
pub record IsUnsynced {H : Type 0} (h : Ghosts H) (side : Side) (start new : H) : Type 0 where
  pub moments : MeetsAll h start new (NowOf h start)
  pub images : HasSameImages h side start new

-- The two phases of an opening, with a host between them. Until the side is synced each image is one of the start. From then on it
-- is what reads gave, and nothing is changed.
pub record SyncsAndReads {H : Type 0} (h : Ghosts H) (side : Side) (start new : H) : Type 0 where
  pub synced : H
  pub first : IsSynced h side start synced
  pub second : MeetsAll h synced new (NowOf h synced)
  pub still : StillAll h synced new

-- the first one alone, where the disk has failed in it, or both
abbrev pub OpensInPhases : {H T : Type 0} → Ghosts H → Side → H → H → Result T OpenFault → Type 0
OpensInPhases h side start new result = (IsErrOf result DiskFault × IsUnsynced h side start new) ⊎ SyncsAndReads h side start new
