-- What the parts of a reader find.
use Rattle.std.specs.Prelude.{◌≡◌, ◌<◌, ◌≤◌, ◌^◌, ℕ, List, ◌∷◌, ◌++◌, length}
use Rattle.gate_journal.specs.declared.format.TheConstants.{MAX_SIDE_END}
use Rattle.gate_journal.specs.declared.reading.Next.{Next}
use Rattle.gate_journal.specs.declared.reading.Next.TheVariants.{End, Cut, Record}
use Rattle.gate_journal.specs.Records.{framed, records, header, place_of, IsClosed}

-- no header of a known generation stands first
abbrev pub HasNoHeader : List ℕ → Type 0
HasNoHeader image = (generation : ℕ) (rest : List ℕ) → generation ≤ 2 → image ≡ 1 ∷ header generation ++ rest → ⊥

-- an open gate, and no whole record behind it
pub record HasNoRecord (bytes : List ℕ) : Type 0 where
  pub left : List ℕ
  pub starts : bytes ≡ 1 ∷ left
  pub none : (payload tail : List ℕ) → length payload < 2 ^ 32 → left ≡ framed payload ++ tail → ⊥

-- what stands at a gate
abbrev pub IsNext : List ℕ → Next → Type 0
IsNext bytes End = IsClosed bytes
IsNext bytes Cut = HasNoRecord bytes
IsNext bytes (Record payload rest) = (bytes ≡ 1 ∷ (framed payload.now ++ rest.now)) × (length payload.now < 2 ^ 32)

-- from the first gate on, these payloads up to a gate that is not open, within what a side holds
pub record HasRecords (payloads : List (List ℕ)) (bytes : List ℕ) : Type 0 where
  pub rest : List ℕ
  pub split : bytes ≡ records payloads ++ rest
  pub ended : IsClosed rest
  pub fits : place_of payloads < MAX_SIDE_END

-- and no payloads
abbrev pub HasNoRecords : List ℕ → Type 0
HasNoRecords bytes = (payloads : List (List ℕ)) (rest : List ℕ) → place_of payloads < MAX_SIDE_END → bytes ≡ records payloads ++ rest → IsClosed rest → ⊥
