-- What a crash may leave on a side between two syncs. An image is a list of numbers.
use Rattle.std.specs.Prelude.{◌≡◌, ℕ, ◌+◌, ◌-◌, ◌≤◌, min, max, List, ◌++◌, length, take, drop, replicate}

-- the bytes after a write at this offset, a gap being filled with zeros
abbrev pub overwritten : List ℕ → ℕ → List ℕ → List ℕ
overwritten old at bytes = take at (old ++ replicate (at - length old) 0) ++ bytes ++ drop (at + length bytes) old

-- after a write of n bytes that a crash cuts short: anything in the range and past the old end, the same elsewhere
pub record Torn (at n : ℕ) (old new : List ℕ) : Type 0 where
  pub before : take (min at (length old)) new ≡ take at old
  pub after : drop (at + n) new ≡ drop (at + n) old
  pub no_shorter : length old ≤ length new
  pub no_longer : length new ≤ max (length old) (at + n)

-- an old image after a step
abbrev pub IsAfter : (List ℕ → List ℕ → Type 0) → (List ℕ → Type 0) → List ℕ → Type 0
IsAfter step old c = (d : List ℕ) × old d × step d c

-- each new image is an old one after a step
abbrev pub Follows : (List ℕ → List ℕ → Type 0) → (List ℕ → Type 0) → (List ℕ → Type 0) → Type 0
Follows step old new = (c : List ℕ) → new c → IsAfter step old c

-- and the other way round: what a step makes of an old image is a new one
abbrev pub Permits : (List ℕ → List ℕ → Type 0) → (List ℕ → Type 0) → (List ℕ → Type 0) → Type 0
Permits step old new = (c d : List ℕ) → old c → step c d → new d

-- each old image is a new one
pub record Stay (old new : List ℕ → Type 0) : Type 0 where
  pub each : (c : List ℕ) → old c → new c

-- there is no image but this
abbrev pub Only : List ℕ → (List ℕ → Type 0) → Type 0
Only image images = (c : List ℕ) → images c → c ≡ image
