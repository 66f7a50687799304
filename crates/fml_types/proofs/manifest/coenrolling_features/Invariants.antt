use Rattle.std.proofs.Common.{◌≡◌, take}
use Rattle.fml_types.specs.Coenrolling.{coenrolling}
use Rattle.fml_types.proofs.manifest.coenrolling_features.Given as goal

abbrev pub invariant-loop-name : goal.invariant-loop-name
invariant-loop-name l = l.names ≡ coenrolling (take l.name-index l.features)
