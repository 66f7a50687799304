-- The rows of preferences are in the order of their keys.
use Rattle.std.proofs.Common.{Less, ◌≡◌, ℕ, List, [], ◌∷◌, ◌++◌, Option, Some, None, refl, sym, subst, append_assoc}
use Rattle.std.specs.List.Sorted.{IsStrictlySortedBy}
use Rattle.std.proofs.lemmas.List.{append-nil}
use Rattle.recipe_reader.specs.Payloads.{slug_cmp}
use Rattle.enrol_states.specs.Order.{Rise, AreAbove}
use Rattle.row_batches.specs.Rows.{AreRows}
use Rattle.row_batches.specs.declared.store_row.StoreRow.{StoreRow}
use Rattle.row_batches.proofs.RowOrder.{IsBelow, rise_section}
use Rattle.pref_bindings.specs.declared.preference.Hold.{Hold}
use Rattle.pref_bindings.specs.declared.preference.Preference.{Preference}
use Rattle.pref_bindings.specs.Preferences.{names_of}
use Rattle.pref_bindings.specs.Rows.{hold_key, hold_row, hold_rows, rows_of, value_rows, value_row}

-- ---- values

pub values_rise : (ps : List Preference) → Rise (names_of ps) → AreRows (value_rows ps)
values_rise ps rise = rise_section (λ (p : Preference). p.name) value_row (λ p q. refl) ps rise

-- ---- holds, and values behind them

holds_first : (name : List ℕ) (ps : List Preference) → IsBelow (hold_key name) (value_rows ps)
holds_first name [] = tt
holds_first name (p ∷ ps) = (refl, holds_first name ps)

below_at : (h : Option Hold) (name : List ℕ) (p : Preference) (rows : List StoreRow) → slug_cmp name p.name ≡ Less → IsBelow (hold_key name) rows → IsBelow (hold_key name) (hold_row p.name h ++ rows)
below_at None name p rows less below = below
below_at (Some h) name p rows less below = (less, below)

below_holds : (name : List ℕ) (ps : List Preference) (rows : List StoreRow) → AreAbove name (names_of ps) → IsBelow (hold_key name) rows → IsBelow (hold_key name) (hold_rows ps ++ rows)
below_holds name [] rows above below = below
below_holds name (p ∷ ps) rows above below =
    subst (IsBelow (hold_key name)) (sym (append_assoc (hold_row p.name p.hold) (hold_rows ps) rows)) (below_at p.hold name p (hold_rows ps ++ rows) above.0 (below_holds name ps rows above.1 below))

rise_at : (h : Option Hold) (p : Preference) (rows : List StoreRow) → IsBelow (hold_key p.name) rows → AreRows rows → AreRows (hold_row p.name h ++ rows)
unfolding IsStrictlySortedBy
rise_at None p rows below rise = rise
rise_at (Some h) p rows below rise = (below, rise)

holds_rise : (ps qs : List Preference) → Rise (names_of ps) → AreRows (value_rows qs) → AreRows (hold_rows ps ++ value_rows qs)
unfolding IsStrictlySortedBy
holds_rise [] qs rise values = values
holds_rise (p ∷ ps) qs rise values =
    subst AreRows (sym (append_assoc (hold_row p.name p.hold) (hold_rows ps) (value_rows qs)))
    (rise_at p.hold p (hold_rows ps ++ value_rows qs) (below_holds p.name ps (value_rows qs) rise.0 (holds_first p.name qs)) (holds_rise ps qs rise.1 values))

pub hold_rows_rise : (ps : List Preference) → Rise (names_of ps) → AreRows (hold_rows ps)
unfolding IsStrictlySortedBy
hold_rows_rise ps rise = subst AreRows (append-nil (hold_rows ps)) (holds_rise ps [] rise tt)

pub rows_rise : (ps : List Preference) → Rise (names_of ps) → AreRows (rows_of ps)
rows_rise ps rise = holds_rise ps ps rise (values_rise ps rise)
