use Rattle.std.proofs.Common.{◌≡◌, drop}
use Rattle.fml_link.specs.Files.{imported_by, first_clash}
use Rattle.fml_link.proofs.names.FileList.clash_of_imports.Given as goal

abbrev pub invariant-loop-import : goal.invariant-loop-import
invariant-loop-import l = first_clash l.self.list (imported_by (drop l.import-index l.imports)) ≡ first_clash l.self.list (imported_by l.imports)
