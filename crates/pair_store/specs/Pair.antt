-- The one list of payloads that a pair of images has.
use Rattle.std.specs.Prelude.{◌≡◌, ◌⊎◌, ◌<◌, ℕ, ◌+◌, ◌%◌, List, length}
use Rattle.host_model.specs.declared.side.Side.{Side}
use Rattle.host_model.specs.Sides.{other, on}
use Rattle.gate_journal.specs.Records.{place_of, IsClosed, IsOpen, IsShut}

-- the generations are 0, 1, 2 and then 0 again
abbrev pub generation_after : ℕ → ℕ
generation_after generation = (generation + 1) % 3

-- a side that is open with payloads of the generation before this one
pub record IsEarlier (generation : ℕ) (image : List ℕ) : Type 0 where
  pub before : ℕ
  pub payloads : List (List ℕ)
  pub side : IsOpen before payloads image
  pub some : 0 < length payloads
  pub next : generation ≡ generation_after before

-- One side is open with these payloads. The other has a byte, and is closed or open with the generation before.
pub record Counts (payloads : List (List ℕ)) (here there : List ℕ) : Type 0 where
  pub generation : ℕ
  pub side : IsOpen generation payloads here
  pub some : 0 < length payloads
  pub rest : IsShut there ⊎ IsEarlier generation there

-- the pair has these payloads, on the side that counts
abbrev pub HasList : List ℕ → List ℕ → List (List ℕ) → Type 0
HasList l r payloads = (side : Side) × Counts payloads (on side l r) (on (other side) l r)

-- and that side has a byte at the gate that ends them
abbrev pub HasKeptList : List ℕ → List ℕ → List (List ℕ) → Type 0
HasKeptList l r payloads = (side : Side) × Counts payloads (on side l r) (on (other side) l r) × (place_of payloads < length (on side l r))

-- a pair has one list at most
abbrev pub HasOneList : Type 0
HasOneList = (l r : List ℕ) (payloads others : List (List ℕ)) → HasList l r payloads → HasList l r others → payloads ≡ others

-- the pair has no list
abbrev pub HasNoList : List ℕ → List ℕ → Type 0
HasNoList l r = (payloads : List (List ℕ)) → HasList l r payloads → ⊥

-- neither side is open
abbrev pub HasNoStore : List ℕ → List ℕ → Type 0
HasNoStore l r = IsClosed l × IsClosed r

-- a side is open, and the pair has no list
pub record IsBad (l r : List ℕ) : Type 0 where
  pub open_side : HasNoStore l r → ⊥
  pub no_list : HasNoList l r
