-- What is found on the sides, and which of them counts.
use Rattle.std.specs.Prelude.{◌≡◌, ◌<◌, ℕ, List, [], ◌∷◌, Bool, true, false, Result, Ok, Err, length}
use Rattle.host_model.specs.declared.side.Side.{Side}
use Rattle.host_model.specs.Sides.{other, on}
use Rattle.gate_journal.specs.Records.{place_of, IsOpen, IsShut}
use Rattle.pair_store.specs.declared.faults.PairFault.{PairFault}
use Rattle.pair_store.specs.declared.faults.PairFault.TheVariants.{NoStore, BadStore, DiskFault, OutOfMemory}
use Rattle.pair_store.specs.declared.records.Choice.{Choice}
use Rattle.pair_store.specs.declared.records.Found.{Found}
use Rattle.pair_store.specs.declared.records.Found.TheVariants.{Empty, Shut, Open, Damaged}
use Rattle.pair_store.specs.declared.records.Records.{Records}
use Rattle.pair_store.specs.Pair.{HasNoStore, IsBad, IsEarlier}

abbrev pub payloads_of : Records → List (List ℕ)
payloads_of records = records.payloads

-- these are the records of this side, and its journal's place is where they end
pub record IsRead (records : Records) (side : Side) (image : List ℕ) : Type 0 where
  pub of_side : records.side ≡ side
  pub open_with : IsOpen records.journal.generation (payloads_of records) image
  pub place : records.journal.place ≡ place_of (payloads_of records)

-- a first byte 1, and no payloads behind it
pub record IsDamaged (image : List ℕ) : Type 0 where
  pub first : List ℕ
  pub starts : image ≡ 1 ∷ first
  pub none : (generation : ℕ) (payloads : List (List ℕ)) → IsOpen generation payloads image → 0 < length payloads → ⊥

-- what is found on a side
abbrev pub IsFound : Side → List ℕ → Found → Type 0
IsFound side image Empty = image ≡ []
IsFound side image Shut = IsShut image
IsFound side image (Open records) = IsRead records side image × (0 < length (payloads_of records))
IsFound side image Damaged = IsDamaged image

-- beside the side that counts, where the other one is open or not
abbrev pub IsBeside : Bool → ℕ → List ℕ → Type 0
IsBeside true generation image = IsEarlier generation image
IsBeside false generation image = IsShut image

-- these records count, at least one, and the other side is open or not
pub record IsChoice (l r : List ℕ) (choice : Choice) : Type 0 where
  pub read : IsRead choice.records choice.records.side (on choice.records.side l r)
  pub some : 0 < length (payloads_of choice.records)
  pub rest : IsBeside choice.is_other_open choice.records.journal.generation (on (other choice.records.side) l r)

-- what is answered for this pair
abbrev pub IsAnswer : List ℕ → List ℕ → Result Choice PairFault → Type 0
IsAnswer l r (Ok choice) = IsChoice l r choice
IsAnswer l r (Err NoStore) = HasNoStore l r
IsAnswer l r (Err BadStore) = IsBad l r
IsAnswer l r (Err DiskFault) = ⊥
IsAnswer l r (Err OutOfMemory) = ⊥
