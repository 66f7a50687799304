use Rattle.std.proofs.Common.{◌≡◌}
use Rattle.pref_bindings.specs.Bindings.{HasPreferences}
use Rattle.pref_bindings.proofs.BindingsRead.{variables_from}
use Rattle.pref_bindings.proofs.bindings.Found.add_feature.Given as goal

abbrev pub invariant-loop-variable : goal.invariant-loop-variable
invariant-loop-variable l = record {
  rest : variables_from l.feature l.self.bindings l.variable-index l.members ≡ variables_from l.feature l.fn.self.bindings 0 l.members;
  preferences : HasPreferences l.self;
}
