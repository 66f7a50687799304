-- The numbers that transforms take.
use Rattle.std.specs.Prelude.{ℕ, ℤ, pos, negsuc, nat_le, ◌&&◌, Option, Some, None, if◌then◌else◌}
use Rattle.json_tree.specs.Json.{Json, whole}

-- the number, where it is from `low` to 2 ^ 32 - 1
abbrev pub bound_within : ℕ → ℤ → Option ℕ
bound_within low (pos n) = if nat_le low n && nat_le n 4294967295 then Some n else None
bound_within low (negsuc n) = None

abbrev pub bound_of : ℕ → Json → Option ℕ
bound_of low (whole n) = bound_within low n
bound_of low x = None

-- the number, where it is from 0
abbrev pub from_zero : ℤ → Option ℕ
from_zero (pos n) = Some n
from_zero (negsuc n) = None

abbrev pub index_of : Json → Option ℕ
index_of (whole n) = from_zero n
index_of x = None
