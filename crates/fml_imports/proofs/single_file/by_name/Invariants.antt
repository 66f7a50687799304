use Rattle.std.proofs.Common.{◌≡◌, take}
use Rattle.fml_imports.specs.Single.{members_json}
use Rattle.fml_imports.proofs.single_file.by_name.Given as goal

abbrev pub invariant-loop-name : goal.invariant-loop-name
invariant-loop-name g l = l.members ≡ members_json g.T.Written.written (take l.name-index l.pairs)
