-- How many bytes the puts of preferences' rows have.
use Rattle.std.specs.Prelude.{◌≡◌, ◌≤◌, ◌+◌, ◌^◌, ℕ, List, length, Option, Some, None}
use Rattle.row_batches.specs.Batch.{puts_text}
use Rattle.pref_bindings.specs.declared.preference.Hold.{Hold}
use Rattle.pref_bindings.specs.declared.preference.Preference.{Preference}
use Rattle.pref_bindings.specs.Preferences.{IsSound}
use Rattle.pref_bindings.specs.Rows.{before_text, rows_of, value_text}

-- the value of a hold's row
abbrev pub hold_size : Hold → ℕ
hold_size h = 1 + length h.holder + length (before_text h.before)

-- the row of a hold, where the preference is held
abbrev pub hold_row_size : ℕ → Option Hold → ℕ
hold_row_size name None = 0
hold_row_size name (Some h) = 8 + name + hold_size h

abbrev pub preference_size : Preference → ℕ
preference_size p = 8 + length p.name + length (value_text p.value) + hold_row_size (length p.name) p.hold

-- sound preferences, and how many bytes the puts of their rows have, which has a bound
pub record AreSized (ps : List Preference) (bytes : ℕ) : Type 0 where
  pub sound : IsSound ps
  pub size : bytes ≡ length (puts_text (rows_of ps))
  pub bound : bytes ≤ 2 ^ 100
