-- What happens to a list of counts, of which the first is the newest.
use Rattle.std.specs.Prelude.{ℕ, ◌+◌, List, [], ◌∷◌, ◌++◌, length, min, replicate, take}

-- the list so many intervals later: zeros stand in front, and the oldest counts are gone
unfoldable pub turned : ℕ → List ℕ → List ℕ
turned steps xs = take (length xs) (replicate steps 0 ++ xs)

-- a sum of counts, which stops at the greatest number of four bytes
abbrev pub capped : ℕ → ℕ
capped n = min n 4294967295

-- the list with more in the present interval
abbrev pub raised : ℕ → List ℕ → List ℕ
raised count [] = []
raised count (x ∷ xs) = capped (x + count) ∷ xs
