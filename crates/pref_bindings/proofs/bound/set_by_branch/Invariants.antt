use Rattle.std.proofs.Common.{◌≡◌, take}
use Rattle.std.specs.List.{AllByRecursion, filter_map, flat_map}
use Rattle.pref_bindings.specs.Bindings.{of_feature}
use Rattle.pref_bindings.specs.Bound.{in_order, setting_of}
use Rattle.pref_bindings.specs.Changes.{IsSetting}
use Rattle.pref_bindings.proofs.bound.set_by_branch.Given as goal

abbrev pub invariant-loop-set : goal.invariant-loop-set
invariant-loop-set l = record {
  values : l.settings.entries ≡ in_order (filter_map (setting_of l.manifest l.branch) (flat_map (λ f. of_feature f.feature l.bindings) (take l.set-index l.branch.features)));
  each : AllByRecursion IsSetting l.settings.entries;
}
