use Rattle.std.proofs.Common.{◌≡◌, ◌++◌}
use Rattle.std.specs.List.{flat_map}
use Rattle.fml_imports.specs.Overrides.{import_overrides}
use Rattle.fml_imports.proofs.overrides.push_overrides.Given as goal

abbrev pub invariant-loop-import : goal.invariant-loop-import
invariant-loop-import l = l.overrides ++ flat_map (import_overrides l.asked l.channel) l.import-iterator.rest.items ≡ l.fn.overrides ++ flat_map (import_overrides l.asked l.channel) l.fn.imports
