-- Whole numbers of 64 bits.
use Rattle.std.specs.Prelude.{ℕ, zero, suc, ◌/◌, ◌^◌, ℤ, pos, negsuc, neg_ℤ, ◌+ℤ◌, ◌-ℤ◌, ◌*ℤ◌, int_rem, Bool, nat_lt, Result, Ok, Err, if◌then◌else◌}
use Rattle.std.specs.Int.{int_pow}
use Rattle.jexl_eval.specs.Faults.{Fault, Overflow, ZeroDivisor, Kind}

-- from - 2 ^ 63 to 2 ^ 63 - 1
abbrev pub fits : ℤ → Bool
fits (pos n) = nat_lt n (2 ^ 63)
fits (negsuc n) = nat_lt n (2 ^ 63)

abbrev pub in_range : ℤ → Result ℤ Fault
in_range n = if fits n then Ok n else Err Overflow

-- an operation with a divisor other than 0
abbrev pub divided : (ℤ → ℤ → ℤ) → ℤ → ℤ → Result ℤ Fault
divided f m (pos zero) = Err ZeroDivisor
divided f m n = in_range (f m n)

-- a quotient by a number above 0, rounded down
abbrev pub floor : ℤ → ℕ → ℤ
floor (pos m) n = pos (m / n)
floor (negsuc m) n = negsuc (m / n)

-- a quotient, rounded down
abbrev pub floor_quotient : ℤ → ℤ → ℤ
floor_quotient m (pos n) = floor m n
floor_quotient m (negsuc n) = floor (neg_ℤ m) (suc n)

abbrev pub sum : ℤ → ℤ → Result ℤ Fault
sum m n = in_range (m +ℤ n)

abbrev pub difference : ℤ → ℤ → Result ℤ Fault
difference m n = in_range (m -ℤ n)

abbrev pub product : ℤ → ℤ → Result ℤ Fault
product m n = in_range (m *ℤ n)

abbrev pub quotient : ℤ → ℤ → Result ℤ Fault
quotient m n = divided floor_quotient m n

-- with the sign of the left side
abbrev pub remainder : ℤ → ℤ → Result ℤ Fault
remainder m n = divided int_rem m n

-- the exponent is not below 0
abbrev pub power : ℤ → ℤ → Result ℤ Fault
power m (pos e) = in_range (int_pow m e)
power m (negsuc e) = Err Kind
