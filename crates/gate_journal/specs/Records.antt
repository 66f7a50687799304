-- The bytes of a side: a first byte, a header, and records behind gates.
use Rattle.std.specs.Prelude.{◌≡◌, ◌≢◌, ◌<◌, ◌≤◌, ℕ, ◌+◌, List, [], ◌∷◌, ◌++◌, length, drop}
use Rattle.std.specs.Int.{w32, to_be_bytes}
use Rattle.gate_journal.specs.declared.format.TheConstants.{MAX_SIDE_END}

-- a payload behind its length in four bytes
unfoldable pub framed : List ℕ → List ℕ
framed payload = to_be_bytes w32 (length payload) ++ payload

-- records with open gates
abbrev pub records : List (List ℕ) → List ℕ
records [] = []
records (payload ∷ payloads) = 1 ∷ framed payload ++ records payloads

-- NIMBUS1 and a generation
abbrev pub header : ℕ → List ℕ
header generation = 78 ∷ 73 ∷ 77 ∷ 66 ∷ 85 ∷ 83 ∷ 49 ∷ generation ∷ []

-- an open side up to the gate that ends it
abbrev pub opened : ℕ → List (List ℕ) → List ℕ
opened generation payloads = 1 ∷ header generation ++ records payloads

-- a record behind its open gate, and the closed gate that ends it
abbrev pub recorded : List ℕ → List ℕ
recorded payload = 1 ∷ framed payload ++ 0 ∷ []

-- a side on which a journal with one payload is made: what follows its closed gate is as before
abbrev pub made_on : ℕ → List ℕ → List ℕ → List ℕ
made_on generation payload image = opened generation (payload ∷ []) ++ 0 ∷ drop (length payload + 15) image

-- where that gate is
abbrev pub place_of : List (List ℕ) → ℕ
place_of payloads = 9 + length (records payloads)

-- no first byte, or one other than 1. Such a side is closed, and so are the bytes at a gate that ends the records
abbrev pub IsClosed : List ℕ → Type 0
IsClosed [] = Unit {0}
IsClosed (gate ∷ rest) = gate ≢ 1

-- a first byte, other than 1
abbrev pub IsShut : List ℕ → Type 0
IsShut [] = ⊥
IsShut (gate ∷ rest) = gate ≢ 1

-- a first byte, which is 0
abbrev pub HasZeroFirst : List ℕ → Type 0
HasZeroFirst [] = ⊥
HasZeroFirst (first ∷ rest) = first ≡ 0

-- a side that is open with these payloads. What follows the gate that ends them counts for nothing
pub record IsOpen (generation : ℕ) (payloads : List (List ℕ)) (image : List ℕ) : Type 0 where
  pub rest : List ℕ
  pub bytes : image ≡ opened generation payloads ++ rest
  pub ended : IsClosed rest
  pub known : generation ≤ 2
  pub fits : place_of payloads < MAX_SIDE_END

-- and it has a byte at that gate
pub record IsKept (generation : ℕ) (payloads : List (List ℕ)) (image : List ℕ) : Type 0 where
  pub side : IsOpen generation payloads image
  pub gate : place_of payloads < length image

-- a first byte 1, and no generation and payloads with which the side is open
pub record IsNoJournal (image : List ℕ) : Type 0 where
  pub first : List ℕ
  pub starts : image ≡ 1 ∷ first
  pub no_journal : (generation : ℕ) (payloads : List (List ℕ)) → IsOpen generation payloads image → ⊥

-- a side is open with one generation and one list of payloads alone
abbrev pub HasOneReading : Type 0
HasOneReading = (generation other : ℕ) (payloads others : List (List ℕ)) (image : List ℕ) → IsOpen generation payloads image → IsOpen other others image
    → (generation ≡ other) × (payloads ≡ others)
