use Rattle.std.proofs.Common.{◌≡◌, ◌++◌, map}
use Rattle.fml_imports.specs.Tables.{feature_for}
use Rattle.fml_imports.proofs.overrides.features_for.Given as goal

abbrev pub invariant-loop-name : goal.invariant-loop-name
invariant-loop-name l = l.pairs.items ++ map (feature_for l.asked l.channel) l.name-iterator.rest.items ≡ map (feature_for l.asked l.channel) l.fn.features
