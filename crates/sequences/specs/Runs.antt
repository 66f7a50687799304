-- Runs of bytes at the front of a text, and the number that digits spell.
use Rattle.std.specs.Prelude.{ℕ, Bool, if◌then◌else◌, ◌+◌, ◌-◌, ◌*◌, List, [], ◌∷◌}

-- a run with one more byte in front
abbrev pub prepend : ℕ → List ℕ × List ℕ → List ℕ × List ℕ
prepend b x = (b ∷ x.0, x.1)

-- the longest run of bytes in front that pass the test, and the bytes after it
unfoldable pub run : (ℕ → Bool) → List ℕ → List ℕ × List ℕ
run test [] = ([], [])
run test (b ∷ bs) = if test b then prepend b (run test bs) else ([], b ∷ bs)

-- the number that decimal digits spell after those that spell `value`
abbrev pub value_from : ℕ → List ℕ → ℕ
value_from value [] = value
value_from value (digit ∷ digits) = value_from (10 * value + (digit - 48)) digits
