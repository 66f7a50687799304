-- What is taken of a source.
use Rattle.std.specs.Prelude.{◌≡◌, ◌≤◌, ◌+◌, ◌^◌, ◌++◌, ℕ, List, length}

-- of the bytes that were left, as many as a script may have are taken at most, and one more
abbrev pub TakesFew : List ℕ → List ℕ → Type 0
TakesFew left new_left = (taken : List ℕ) × (left ≡ taken ++ new_left) × (length taken ≤ 2 ^ 20 + 1)
