-- The bytes of a frame.
use Rattle.std.specs.Prelude.{◌≡◌, ℕ, ◌+◌, ◌-◌, ◌≤◌, List, [], ◌∷◌, ◌++◌, length, take, drop}
use Rattle.gate_journal.specs.declared.frame.TheConstants.{MAX_PAYLOAD}
use Rattle.gate_journal.specs.Records.{framed}

-- what is behind four bytes and before the last one
abbrev pub payload_in : List ℕ → List ℕ
payload_in bytes = drop 4 (take (length bytes - 1) bytes)

-- a payload of at most 67,108,864 bytes behind its length, and a closed gate
pub record IsFrame (bytes : List ℕ) : Type 0 where
  pub parts : bytes ≡ framed (payload_in bytes) ++ 0 ∷ []
  pub least : 5 ≤ length bytes
  pub most : length bytes ≤ MAX_PAYLOAD + 5
