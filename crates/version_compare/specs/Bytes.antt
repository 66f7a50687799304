-- The bytes that end the pieces of a version.
use Rattle.std.specs.Prelude.{ℕ, Bool, false, true, if◌then◌else◌, ◌==◌, ◌||◌}
use Rattle.std.specs.Char.{is_ascii_digit}

abbrev pub is_no_dot : ℕ → Bool
is_no_dot b = if b == 46 then false else true

-- neither a digit nor `+` nor `-`
abbrev pub is_string_byte : ℕ → Bool
is_string_byte b = if is_ascii_digit b || b == 43 || b == 45 then false else true
