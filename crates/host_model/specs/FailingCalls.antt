-- The numbering of calls, of which some fail.
use Rattle.std.specs.Prelude.{ℕ, ◌+◌, ◌-◌, ◌^◌, min, List, Contains}

-- the numbers of the calls that fail, and the number of the last call, 0 before the first one
pub record FailingCalls : Type 0 where
  pub numbers : List ℕ
  pub number : ℕ

-- the number stays at its last value once it is there
abbrev pub next_number : FailingCalls → ℕ
next_number calls = min (calls.number + 1) (2 ^ 64 - 1)

abbrev pub IsNextFailing : FailingCalls → Type 0
IsNextFailing calls = Contains calls.numbers (next_number calls)

-- one call more
abbrev pub counted : FailingCalls → FailingCalls
counted calls = record { numbers = calls.numbers; number = next_number calls }

-- none is made yet
abbrev pub none_made : List ℕ → FailingCalls
none_made numbers = record { numbers = numbers; number = 0 }
