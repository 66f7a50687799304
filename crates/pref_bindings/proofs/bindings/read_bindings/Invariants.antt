use Rattle.std.proofs.Common.{◌≡◌, []}
use Rattle.pref_bindings.specs.Bindings.{HasPreferences}
use Rattle.pref_bindings.proofs.BindingsRead.{features_from}
use Rattle.pref_bindings.proofs.bindings.read_bindings.Given as goal

abbrev pub invariant-loop-feature : goal.invariant-loop-feature
invariant-loop-feature l = record {
  rest : features_from l.found.bindings l.feature-index l.members ≡ features_from [] 0 l.members;
  preferences : HasPreferences l.found;
}
