use Rattle.std.proofs.Common.{◌≡◌, map}
use Rattle.fml_imports.specs.Overrides.{overridden}
use Rattle.fml_imports.proofs.tables.overridden.Given as goal

abbrev pub invariant-loop-name : goal.invariant-loop-name
invariant-loop-name l = map (overridden l.name-iterator.rest.items) l.features ≡ map (overridden l.fn.overrides) l.fn.features
