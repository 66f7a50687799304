-- The row of one hold before those of others.
use Rattle.std.specs.Prelude.{◌≡◌, ℕ, List, ◌∷◌, ◌++◌, Option, Some, None, refl, if◌then◌else◌}
use Rattle.std.specs.Option.{is_some}
use Rattle.row_batches.specs.declared.store_row.StoreRow.{StoreRow}
use Rattle.pref_bindings.specs.declared.preference.Hold.{Hold}
use Rattle.pref_bindings.specs.Rows.{hold_key, hold_row, hold_value}

pub one_hold : (name : List ℕ) (h : Option Hold) (rest : List StoreRow) → hold_row name h ++ rest ≡ (if is_some h then record { key = hold_key name; value = hold_value h } ∷ rest else rest)
one_hold name None rest = refl
one_hold name (Some h) rest = refl
