-- What holds of each sound preference holds of each of a range of them.
use Rattle.std.proofs.Common.{ℕ, ◌-◌, List, drop}
use Rattle.std.proofs.lemmas.List.Elements.{All-drop, All-from_recursion, All-take, recursion_from_All}
use Rattle.std.specs.Prelude.{slice_range}
use Rattle.std.specs.List.{AllByRecursion}
use Rattle.pref_bindings.specs.declared.preference.Preference.{Preference}
use Rattle.pref_bindings.specs.Preferences.{IsPreference, IsSound}

pub range_each : (ps : List Preference) (start end : ℕ) → IsSound ps → AllByRecursion IsPreference (slice_range ps start end)
range_each ps start end sound =
    recursion_from_All IsPreference (slice_range ps start end) (All-take IsPreference (end - start) (drop start ps) (All-drop IsPreference start ps (All-from_recursion IsPreference ps sound.each)))
