-- What a journal on a host stands for, and what its calls leave of an image.
use Rattle.std.specs.Prelude.{◌≡◌, ◌⊎◌, ◌<◌, ℕ, List, [], ◌∷◌, ◌++◌, length, drop, Result, IsErrOf}
use Rattle.host_model.specs.declared.host.Host.{Ghosts}
use Rattle.host_model.specs.declared.side.Side.{Side}
use Rattle.host_model.specs.Hosts.{IsDurable}
use Rattle.gate_journal.specs.declared.faults.OpenFault.{OpenFault}
use Rattle.gate_journal.specs.declared.faults.OpenFault.TheVariants.{DiskFault, OutOfMemory}
use Rattle.gate_journal.specs.OpenSide.{OpenSide}
use Rattle.gate_journal.specs.Records.{place_of, IsOpen, IsKept, IsShut, HasZeroFirst}

-- the journal's side is open with these payloads, its place is where they end, and each image is what reads give
pub record Stands {H : Type 0} (h : Ghosts H) (journal : OpenSide) (host : H) (payloads : List (List ℕ)) : Type 0 where
  pub side : IsOpen journal.generation payloads (h.reads host journal.side)
  pub place : journal.place ≡ place_of payloads
  pub only : IsDurable h host journal.side

-- and the side has a byte at that place
pub record StandsWithGate {H : Type 0} (h : Ghosts H) (journal : OpenSide) (host : H) (payloads : List (List ℕ)) : Type 0 where
  pub stands : Stands h journal host payloads
  pub gate : journal.place < length (h.reads host journal.side)

-- each image of this side is closed, with at least one byte
abbrev pub IsShutOn : {H : Type 0} → Ghosts H → H → Side → Type 0
IsShutOn h host side = (image : List ℕ) → h.images host side image → IsShut image

-- each image of this side has 0 as its first byte
abbrev pub IsZeroFirstOn : {H : Type 0} → Ghosts H → H → Side → Type 0
IsZeroFirstOn h host side = (image : List ℕ) → h.images host side image → HasZeroFirst image

-- closed with at least one byte, or open with exactly this payload
abbrev pub IsShutOrHas : ℕ → List ℕ → List ℕ → Type 0
IsShutOrHas generation payload image = IsShut image ⊎ IsKept generation (payload ∷ []) image

-- open with the payloads of before, or with these and the next
abbrev pub IsBeforeOrAfter : ℕ → List (List ℕ) → List ℕ → List ℕ → Type 0
IsBeforeOrAfter generation payloads next image = IsKept generation payloads image ⊎ IsKept generation (payloads ++ next ∷ []) image

-- an image of before, or one with any byte as its first byte, also where it had none
abbrev pub SameButFirst : (List ℕ → Type 0) → List ℕ → Type 0
SameButFirst images image = (old : List ℕ) × images old × ((image ≡ old) ⊎ ((byte : ℕ) × (image ≡ byte ∷ drop 1 old)))

-- an opening that the disk or want of memory has ended
abbrev pub HasFailed : {T : Type 0} → Result T OpenFault → Type 0
HasFailed result = IsErrOf result DiskFault ⊎ IsErrOf result OutOfMemory
