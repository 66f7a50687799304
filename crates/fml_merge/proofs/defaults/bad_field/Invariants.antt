use Rattle.std.proofs.Common.{◌≡◌, drop}
use Rattle.fml_merge.specs.Faults.{bad_field}
use Rattle.fml_merge.proofs.defaults.bad_field.Given as goal

abbrev pub invariant-loop-name : goal.invariant-loop-name
invariant-loop-name l = bad_field l.types (drop l.name-index l.pairs) ≡ bad_field l.types l.pairs
