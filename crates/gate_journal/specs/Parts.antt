-- Payloads as parts of bytes.
use Rattle.std.specs.Prelude.{ℕ, ◌+◌, ◌≤◌, List, length, map, take, drop}
use Rattle.std.specs.List.{AllByRecursion}
use Rattle.gate_journal.specs.declared.payloads.Part.{Part}

-- the payload that is this part of the bytes
abbrev pub payload_at : List ℕ → Part → List ℕ
payload_at bytes part = take part.len (drop part.start bytes)

-- and those of several
abbrev pub payloads_in : List ℕ → List Part → List (List ℕ)
payloads_in bytes parts = map (payload_at bytes) parts

-- the part ends within the bytes
abbrev pub IsWithin : List ℕ → Part → Type 0
IsWithin bytes part = part.start + part.len ≤ length bytes

-- and each of several does
abbrev pub AreWithin : List ℕ → List Part → Type 0
AreWithin bytes parts = AllByRecursion (IsWithin bytes) parts
