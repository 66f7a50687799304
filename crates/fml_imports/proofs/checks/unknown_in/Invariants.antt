use Rattle.std.proofs.Common.{◌≡◌, drop}
use Rattle.fml_imports.specs.Joining.{unknown_in}
use Rattle.fml_imports.proofs.checks.unknown_in.Given as goal

abbrev pub invariant-loop-field : goal.invariant-loop-field
invariant-loop-field l = unknown_in l.types (drop l.field-index l.field-items) ≡ unknown_in l.types l.fields
