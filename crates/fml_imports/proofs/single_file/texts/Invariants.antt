use Rattle.std.proofs.Common.{◌≡◌, map, take}
use Rattle.json_tree.specs.Json.{text}
use Rattle.fml_imports.proofs.single_file.texts.Given as goal

abbrev pub invariant-loop-name : goal.invariant-loop-name
invariant-loop-name l = l.items ≡ map text (take l.name-index l.names)
