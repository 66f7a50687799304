-- What a crash may leave of a pair while a call on it is at work. The text said is that of the call's start.
use Rattle.std.specs.Prelude.{◌≡◌, ◌⊎◌, ◌+◌, ℕ, List, ◌∷◌, length, drop, Result, IsErrOf}
use Rattle.host_model.specs.declared.host.Host.{Ghosts}
use Rattle.host_model.specs.declared.side.Side.{Side}
use Rattle.host_model.specs.declared.side.Side.TheVariants.{Left, Right}
use Rattle.host_model.specs.Hosts.{MeetsAll, NowOf}
use Rattle.host_model.specs.Images.{Torn}
use Rattle.host_model.specs.Sides.{other, on}
use Rattle.gate_journal.specs.Journal.{IsShutOrHas, SameButFirst}
use Rattle.gate_journal.specs.Opening.{HasSameImages, IsSettledOn, IsUnsynced, SyncsAndReads}
use Rattle.pair_store.specs.declared.faults.PairFault.{PairFault}
use Rattle.pair_store.specs.declared.faults.PairFault.TheVariants.{DiskFault}
use Rattle.pair_store.specs.declared.mark.TheConstants.{MAX_RECORD_END}
use Rattle.pair_store.specs.Pair.{HasList, HasKeptList}
use Rattle.pair_store.specs.Repair.{IsRepaired, IsUnwritten}

-- the pair has the list of before, or that of after with a byte at its gate
abbrev pub HasEither : {H : Type 0} → Ghosts H → H → List (List ℕ) → List (List ℕ) → List ℕ → List ℕ → List ℕ → Type 0
HasEither h start before after l r u = (HasList l r before ⊎ HasKeptList l r after) × (u ≡ h.said start)

-- and the list of before has a byte at its gate too
abbrev pub KeepsEither : {H : Type 0} → Ghosts H → H → List (List ℕ) → List (List ℕ) → List ℕ → List ℕ → List ℕ → Type 0
KeepsEither h start before after l r u = (HasKeptList l r before ⊎ HasKeptList l r after) × (u ≡ h.said start)

-- an image of before, but for bytes in front of this place
abbrev pub SameBehind : ℕ → (List ℕ → Type 0) → List ℕ → Type 0
SameBehind place images image = (old : List ℕ) × images old × (drop place image ≡ drop place old)

-- no byte at or past the mark is written
abbrev pub StaysBelow : {H : Type 0} → Ghosts H → H → List ℕ → List ℕ → List ℕ → Type 0
StaysBelow h start l r u = ((side : Side) → SameBehind MAX_RECORD_END (h.images start side) (on side l r)) × (u ≡ h.said start)

-- the images of the start, or those that a repair leaves of what reads gave
abbrev pub IsOpening : {H : Type 0} → Ghosts H → H → List ℕ → List ℕ → List ℕ → Type 0
IsOpening h start l r u = NowOf h start l r u ⊎ (IsRepaired h start l r × (u ≡ h.said start))

-- what reads gave at the start, or what a repair leaves of it
abbrev pub IsReadOrRepaired : {H : Type 0} → Ghosts H → H → List ℕ → List ℕ → List ℕ → Type 0
IsReadOrRepaired h start l r u = (((side : Side) → on side l r ≡ h.reads start side) ⊎ IsRepaired h start l r) × (u ≡ h.said start)

-- The two phases of an opening, with a host between them. Until both sides are synced nothing is written, and each image is
-- one of the start. From then on each is what reads gave, but for the first byte of the earlier of two open sides.
pub record OpensInTwoPhases {H : Type 0} (h : Ghosts H) (start new : H) : Type 0 where
  pub synced : H
  pub first : MeetsAll h start synced (NowOf h start)
  pub unwritten : IsUnwritten h start synced
  pub second : MeetsAll h synced new (IsReadOrRepaired h start)

-- The disk has failed before both sides were synced: nothing is written, and at each moment each image was one of the start. One side
-- has the images of the start still; the other one has them too, or it was synced.
pub record EndsUnsynced {H : Type 0} (h : Ghosts H) (start new : H) : Type 0 where
  pub moments : MeetsAll h start new (NowOf h start)
  pub cost : h.written new ≡ h.written start
  pub unsynced : Side
  pub here : HasSameImages h unsynced start new
  pub there : HasSameImages h (other unsynced) start new ⊎ IsSettledOn h (other unsynced) start new

-- the first one alone, where the disk has failed in it, or both
abbrev pub OpensInPhases : {H T : Type 0} → Ghosts H → H → H → Result T PairFault → Type 0
OpensInPhases h start new result = (IsErrOf result DiskFault × EndsUnsynced h start new) ⊎ OpensInTwoPhases h start new

-- one side is synced and read, or the disk has failed before it was synced
abbrev pub ReadsSide : {H T : Type 0} → Ghosts H → Side → H → H → Result T PairFault → Type 0
ReadsSide h side start new result = (IsErrOf result DiskFault × IsUnsynced h side start new) ⊎ SyncsAndReads h side start new

-- both sides are synced, and then read
pub record ReadsBoth {H : Type 0} (h : Ghosts H) (start new : H) : Type 0 where
  pub synced : H
  pub first : MeetsAll h start synced (NowOf h start)
  pub unwritten : IsUnwritten h start synced
  pub text : h.said synced ≡ h.said start
  pub second : MeetsAll h synced new (NowOf h synced)

-- or the disk has failed before both were synced
abbrev pub ReadsInPhases : {H T : Type 0} → Ghosts H → H → H → Result T PairFault → Type 0
ReadsInPhases h start new result = (IsErrOf result DiskFault × EndsUnsynced h start new) ⊎ ReadsBoth h start new

-- an opening that does no more than sync both sides and read them
pub record IsOnlyRead {H : Type 0} (h : Ghosts H) (start new : H) : Type 0 where
  pub moments : MeetsAll h start new (NowOf h start)
  pub cost : h.written new ≡ h.written start

-- the right side is being closed, and the left one is as at the start
abbrev pub ClosesRight : {H : Type 0} → Ghosts H → H → List ℕ → List ℕ → Type 0
ClosesRight h start l r = h.images start Left l × SameButFirst (h.images start Right) r

-- then the left side is being closed
abbrev pub ClosesLeft : {H : Type 0} → Ghosts H → H → List ℕ → List ℕ → Type 0
ClosesLeft h start l r = SameButFirst (h.images start Left) l × (r ≡ 0 ∷ drop 1 (h.reads start Right))

-- and then the journal of this payload is being made on the left side, which is closed until it is whole
pub record MakesLeft {H : Type 0} (h : Ghosts H) (start : H) (first l r : List ℕ) : Type 0 where
  pub range : Torn 0 (length first + 15) (0 ∷ drop 1 (h.reads start Left)) l
  pub left : IsShutOrHas 0 first l
  pub right : r ≡ 0 ∷ drop 1 (h.reads start Right)

-- The three steps of a making. Each begins when the one before is on the disk.
abbrev pub IsMaking : {H : Type 0} → Ghosts H → H → List ℕ → List ℕ → List ℕ → List ℕ → Type 0
IsMaking h start first l r u = (ClosesRight h start l r ⊎ ClosesLeft h start l r ⊎ MakesLeft h start first l r) × (u ≡ h.said start)
