use Rattle.std.specs.List.{AllByRecursion}
use Rattle.pref_bindings.specs.Changes.{IsSetting}
use Rattle.state_scenarios.proofs.preferences.settings.settings_of.Given as goal

abbrev pub invariant-loop-setting : goal.invariant-loop-setting
invariant-loop-setting l = AllByRecursion IsSetting l.settings.items
