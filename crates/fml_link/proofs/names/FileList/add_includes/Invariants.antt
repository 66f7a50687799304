use Rattle.std.proofs.Common.{◌≡◌, drop}
use Rattle.fml_link.specs.Files.{included_by, with_files}
use Rattle.fml_link.specs.Names.{AreMet}
use Rattle.fml_link.proofs.names.FileList.add_includes.Given as goal

abbrev pub invariant-loop-include : goal.invariant-loop-include
invariant-loop-include l = record {
  met : AreMet l.self;
  added : with_files l.self.list (included_by l.channel (drop l.include-index l.includes)) ≡ with_files l.fn.self.list (included_by l.channel l.includes);
}
