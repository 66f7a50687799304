use Rattle.std.proofs.Common.{◌≡◌, drop}
use Rattle.fml_imports.specs.Imports.{first_found, unknown_import, first_unknown_import}
use Rattle.fml_imports.specs.declared.joining.Linked.{Linked}
use Rattle.fml_imports.proofs.imports.unknown_of_files.Given as goal

abbrev pub invariant-loop-file : goal.invariant-loop-file
invariant-loop-file l = first_found (λ (f : Linked). first_found (unknown_import l.files) f.module.imports) (drop l.file-index l.files) ≡ first_unknown_import l.files
