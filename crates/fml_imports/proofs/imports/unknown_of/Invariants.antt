use Rattle.std.proofs.Common.{◌≡◌, drop}
use Rattle.fml_imports.specs.Imports.{first_found, unknown_import}
use Rattle.fml_imports.proofs.imports.unknown_of.Given as goal

abbrev pub invariant-loop-import : goal.invariant-loop-import
invariant-loop-import l = first_found (unknown_import l.files) (drop l.import-index l.imports) ≡ first_found (unknown_import l.files) l.imports
