use Rattle.std.proofs.Common.{◌≡◌, drop}
use Rattle.fml_link.specs.Files.{included_by, first_clash}
use Rattle.fml_link.proofs.names.FileList.clash_of_includes.Given as goal

abbrev pub invariant-loop-include : goal.invariant-loop-include
invariant-loop-include l = first_clash l.self.list (included_by l.channel (drop l.include-index l.includes)) ≡ first_clash l.self.list (included_by l.channel l.includes)
