-- How many bytes a call writes.
use Rattle.std.specs.Prelude.{◌≡◌, ℕ, ◌+◌, ◌≤◌, Result, OnOk}

-- exactly so many at `Ok`, and at most so many otherwise
pub record HasCost {T E : Type 0} (bytes before now : ℕ) (result : Result T E) : Type 0 where
  pub exact : OnOk result (now ≡ before + bytes)
  pub least : before ≤ now
  pub most : now ≤ before + bytes
