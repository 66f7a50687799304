use Rattle.std.proofs.Common.{◌≡◌, drop}
use Rattle.fml_merge.specs.Faults.{first_owner, bad_in_object}
use Rattle.fml_merge.proofs.defaults.check_objects.Given as goal

abbrev pub invariant-loop-name : goal.invariant-loop-name
invariant-loop-name l = first_owner (bad_in_object l.manifest.types) (drop l.name-index l.objects) ≡ first_owner (bad_in_object l.manifest.types) l.objects
