use Rattle.std.proofs.Common.{◌≡◌, drop}
use Rattle.fml_link.specs.Files.{imported_by, with_files}
use Rattle.fml_link.specs.Names.{AreMet}
use Rattle.fml_link.proofs.names.FileList.add_imports.Given as goal

abbrev pub invariant-loop-import : goal.invariant-loop-import
invariant-loop-import l = record {
  met : AreMet l.self;
  added : with_files l.self.list (imported_by (drop l.import-index l.imports)) ≡ with_files l.fn.self.list (imported_by l.imports);
}
