-- What an opening leaves: where two sides are open, the earlier one is closed.
use Rattle.std.specs.Prelude.{◌≡◌, ◌⊎◌, ◌<◌, ℕ, List, [], ◌∷◌, Bool, true, false, nat_eq, if◌then◌else◌, length, drop}
use Rattle.host_model.specs.declared.host.Host.{Ghosts}
use Rattle.host_model.specs.declared.side.Side.{Side}
use Rattle.host_model.specs.declared.side.Side.TheVariants.{Left, Right}
use Rattle.host_model.specs.Hosts.{IsDurable}
use Rattle.host_model.specs.Sides.{other, on}
use Rattle.gate_journal.specs.Journal.{SameButFirst}
use Rattle.gate_journal.specs.Records.{IsOpen, HasZeroFirst}
use Rattle.pair_store.specs.Pair.{IsEarlier}

-- whether the first byte is 1
abbrev pub starts_open : List ℕ → Bool
starts_open [] = false
starts_open (first ∷ rest) = nat_eq first 1

-- how many bytes an opening writes: one where both sides are open
abbrev pub repair_cost : List ℕ → List ℕ → ℕ
repair_cost l r = if starts_open l then (if starts_open r then 1 else 0) else 0

-- what it leaves of the side that doesn't count: a first byte 1 is 0 then
abbrev pub shut_first : List ℕ → List ℕ
shut_first [] = []
shut_first (first ∷ rest) = (if nat_eq first 1 then 0 else first) ∷ rest

-- both sides were open, each with a payload; the later one is as reads gave it, and the earlier one too but for its first byte
pub record IsRepaired {H : Type 0} (h : Ghosts H) (start : H) (l r : List ℕ) : Type 0 where
  pub side : Side
  pub generation : ℕ
  pub payloads : List (List ℕ)
  pub later : IsOpen generation payloads (h.reads start side)
  pub some : 0 < length payloads
  pub earlier : IsEarlier generation (h.reads start (other side))
  pub here : on side l r ≡ h.reads start side
  pub there : (byte : ℕ) × (on (other side) l r ≡ byte ∷ drop 1 (h.reads start (other side)))

-- both sides were open, and the earlier one is closed by a first byte 0
pub record IsEarlierClosed {H : Type 0} (h : Ghosts H) (start new : H) : Type 0 where
  pub repaired : IsRepaired h start (h.reads new Left) (h.reads new Right)
  pub zero : HasZeroFirst (h.reads new (other repaired.side))

-- What an opening leaves where the disk hasn't failed: each image is what reads give, and they give what they gave at the
-- start, but where the earlier of two open sides is closed.
pub record IsLeftByOpening {H : Type 0} (h : Ghosts H) (start new : H) : Type 0 where
  pub durable : (side : Side) → IsDurable h new side
  pub bytes : ((side : Side) → h.reads new side ≡ h.reads start side) ⊎ IsEarlierClosed h start new

-- nothing is written, and each image is what reads give
pub record IsUnwritten {H : Type 0} (h : Ghosts H) (start new : H) : Type 0 where
  pub same : (side : Side) → h.reads new side ≡ h.reads start side
  pub durable : (side : Side) → IsDurable h new side
  pub cost : h.written new ≡ h.written start

-- what may be met on a side that is closed where it is open
abbrev pub MayBeShut : Bool → (List ℕ → Type 0) → List ℕ → Type 0
MayBeShut true images image = SameButFirst images image
MayBeShut false images image = images image

-- and what it is then
abbrev pub shut_where : Bool → List ℕ → List ℕ
shut_where true image = 0 ∷ drop 1 image
shut_where false image = image
