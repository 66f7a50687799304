-- How rows are read: the rows of holds stand before the others.
use Rattle.std.specs.Prelude.{◌≡◌, ◌≤◌, ◌==◌, ℕ, Bool, true, false, List, [], ◌∷◌, length, take, drop, Option, None, ⊤}
use Rattle.std.specs.List.{AllByRecursion}
use Rattle.row_batches.specs.declared.store_row.StoreRow.{StoreRow}
use Rattle.pref_bindings.specs.declared.preference.Hold.{Hold}
use Rattle.pref_bindings.specs.declared.preference.Preference.{Preference}
use Rattle.pref_bindings.specs.Preferences.{IsSound}
use Rattle.pref_bindings.specs.Rows.{hold_key, hold_rows, value_rows}

abbrev pub begins_with_h : List ℕ → Bool
begins_with_h [] = false
begins_with_h (x ∷ xs) = x == 104

-- whether the row is a hold's, by the letter of its key
abbrev pub is_hold : StoreRow → Bool
is_hold r = begins_with_h r.key

abbrev pub AreHolds : List StoreRow → Type 0
AreHolds rows = AllByRecursion (λ r. is_hold r ≡ true) rows

-- the first row, where there is one, is no hold's
abbrev pub IsNoHoldFirst : List StoreRow → Type 0
IsNoHoldFirst [] = ⊤
IsNoHoldFirst (r ∷ rows) = is_hold r ≡ false

-- the rows of holds end at the i-th row
pub record IsHoldsEnd (rows : List StoreRow) (i : ℕ) : Type 0 where
  pub within : i ≤ length rows
  pub holds : AreHolds (take i rows)
  pub others : IsNoHoldFirst (drop i rows)

-- the first row has the key
abbrev pub BeginsWith : List ℕ → List StoreRow → Type 0
BeginsWith key [] = ⊥
BeginsWith key (r ∷ rows) = r.key ≡ key

-- the first of the rows is not that of the name's hold, where this has none
abbrev pub IsAlone : List ℕ → Option Hold → List StoreRow → Type 0
IsAlone name hold rest = hold ≡ None → BeginsWith (hold_key name) rest → ⊥

-- these are the only sound preferences whose rows these are
abbrev pub AreOnly : List StoreRow → List StoreRow → List Preference → Type 0
AreOnly holds values ps = (qs : List Preference) → IsSound qs → holds ≡ hold_rows qs → values ≡ value_rows qs → qs ≡ ps

-- no sound preferences have these rows
abbrev pub AreNone : List StoreRow → List StoreRow → Type 0
AreNone holds values = (qs : List Preference) → IsSound qs → holds ≡ hold_rows qs → values ≡ value_rows qs → ⊥
