use Rattle.std.proofs.Common.{◌≡◌, map, take}
use Rattle.fml_imports.specs.Single.{entry_json}
use Rattle.fml_imports.proofs.single_file.entries.Given as goal

abbrev pub invariant-loop-entry : goal.invariant-loop-entry
invariant-loop-entry l = l.items ≡ map entry_json (take l.entry-index l.entries)
