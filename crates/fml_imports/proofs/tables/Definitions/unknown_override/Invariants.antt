use Rattle.std.proofs.Common.{◌≡◌, drop}
use Rattle.fml_imports.specs.Held.{held}
use Rattle.fml_imports.specs.Joining.{unknown_override}
use Rattle.fml_imports.proofs.tables.Definitions.unknown_override.Given as goal

abbrev pub invariant-loop-name : goal.invariant-loop-name
invariant-loop-name l = unknown_override (drop l.name-index l.name-items) (held l.self.tables) ≡ unknown_override l.self.overrides (held l.self.tables)
