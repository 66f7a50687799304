-- The rows of preferences change where those of the part do that may differ.
use Rattle.std.proofs.Common.{◌≡◌, ◌++◌, List, sym, ap, ap₂, ◌∙◌, subst}
use Rattle.std.proofs.lemmas.Grind.{flat_map-append}
use Rattle.pref_bindings.proofs.RowOrder.{hold_rows_rise, values_rise}
use Rattle.pref_bindings.specs.Preferences.{IsSound}
use Rattle.pref_bindings.specs.Rows.{hold_row, hold_rows, value_row, value_rows}
use Rattle.pref_bindings.specs.declared.next_preferences.NextPreferences.{NextPreferences}
use Rattle.pref_bindings.specs.declared.preference.Preference.{Preference}
use Rattle.row_batches.specs.Between.{changes_between}
use Rattle.row_batches.specs.Rows.{AreRows}
use Rattle.row_batches.specs.declared.store_row.StoreRow.{StoreRow}
use Rattle.sequences.specs.ListParts.{part_of_new, part_of_old}
use Rattle.state_codec.proofs.ListParts as parts
use Rattle.client_state.specs.Changes.{IsNextPreferences}

module _ (old : List Preference) (next : NextPreferences) (is : IsNextPreferences old next) (sound : IsSound old) where
  abbrev front : List Preference
  front = parts.front next.part old next.preferences is.part

  abbrev behind : List Preference
  behind = parts.behind next.part old next.preferences is.part

  abbrev olds : List Preference
  olds = part_of_old next.part old

  abbrev news : List Preference
  news = part_of_new next.part next.preferences

  pub values_told : changes_between (value_rows olds) (value_rows news) ≡ changes_between (value_rows old) (value_rows next.preferences)
  values_told = parts.part_alone value_row next.part old next.preferences is.part (values_rise old sound.names) (values_rise next.preferences is.sound.names)

  abbrev row_of : Preference → List StoreRow
  row_of p = hold_row p.name p.hold

  three : (ps qs rs : List Preference) → hold_rows (ps ++ (qs ++ rs)) ≡ hold_rows ps ++ (hold_rows qs ++ hold_rows rs)
  three ps qs rs = flat_map-append row_of ps (qs ++ rs) ∙ ap (λ (l : List StoreRow). hold_rows ps ++ l) (flat_map-append row_of qs rs)

  old_holds : hold_rows old ≡ hold_rows front ++ (hold_rows olds ++ hold_rows behind)
  old_holds = ap hold_rows (parts.old_split next.part old next.preferences is.part) ∙ three front olds behind

  new_holds : hold_rows next.preferences ≡ hold_rows front ++ (hold_rows news ++ hold_rows behind)
  new_holds = ap hold_rows (parts.new_split next.part old next.preferences is.part) ∙ three front news behind

  pub holds_told : changes_between (hold_rows olds) (hold_rows news) ≡ changes_between (hold_rows old) (hold_rows next.preferences)
  holds_told =
      sym (ap₂ changes_between old_holds new_holds
      ∙ parts.middle_alone (hold_rows front) (hold_rows olds) (hold_rows news) (hold_rows behind)
      (subst AreRows old_holds (hold_rows_rise old sound.names)) (subst AreRows new_holds (hold_rows_rise next.preferences is.sound.names)))
