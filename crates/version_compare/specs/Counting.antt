-- Numbers read a digit at a time.
use Rattle.std.specs.Prelude.{◌≡◌, ℕ, ◌+◌, ◌^◌, ◌<◌, ◌≤◌, if◌then◌else◌, nat_lt, List, ◌∷◌, length}
use Rattle.sequences.specs.Runs.{value_from}

-- what `count` digits of this value make with these digits after them
abbrev pub magnitude_from : ℕ → ℕ → List ℕ → ℕ
magnitude_from count value digits = if nat_lt 18 (count + length digits) then 10 ^ 18 else value_from value digits

-- up to 18 digits, the value has no more digits than were counted
abbrev pub FitsCount : ℕ → ℕ → Type 0
FitsCount count value = count ≤ 18 → value < 10 ^ count

-- the new count and value stand for the old ones with this digit after them
abbrev pub AddsDigit : ℕ → ℕ → ℕ → ℕ → ℕ → Type 0
AddsDigit count value digit new_count new_value = (digits : List ℕ) → magnitude_from count value (digit ∷ digits) ≡ magnitude_from new_count new_value digits
