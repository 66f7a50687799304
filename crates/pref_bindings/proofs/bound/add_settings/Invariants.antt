use Rattle.std.proofs.Common.{◌≡◌, take}
use Rattle.std.specs.Prelude.{fold}
use Rattle.std.specs.List.{AllByRecursion, filter_map}
use Rattle.pref_bindings.specs.Bound.{setting_of, with_setting}
use Rattle.pref_bindings.specs.Changes.{IsSetting}
use Rattle.pref_bindings.proofs.bound.add_settings.Given as goal

abbrev pub invariant-loop-binding : goal.invariant-loop-binding
invariant-loop-binding l = record {
  values : l.settings.entries ≡ fold with_setting l.fn.settings.entries (filter_map (setting_of l.manifest l.branch) (take l.binding-index l.bindings));
  each : AllByRecursion IsSetting l.settings.entries;
}
