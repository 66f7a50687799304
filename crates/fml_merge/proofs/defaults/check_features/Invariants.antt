use Rattle.std.proofs.Common.{◌≡◌, drop}
use Rattle.fml_merge.specs.Faults.{first_owner, bad_in_feature}
use Rattle.fml_merge.proofs.defaults.check_features.Given as goal

abbrev pub invariant-loop-name : goal.invariant-loop-name
invariant-loop-name l = first_owner (bad_in_feature l.manifest.types) (drop l.name-index l.features) ≡ first_owner (bad_in_feature l.manifest.types) l.features
