use Rattle.std.proofs.Common.{◌≡◌, drop}
use Rattle.fml_types.specs.Ground.{first_above}
use Rattle.fml_types.specs.Values.{value_in}
use Rattle.fml_types.proofs.grounding.first_above.Given as goal

abbrev pub invariant-loop-place : goal.invariant-loop-place
invariant-loop-place g l = first_above l.limit (value_in l.values) l.place (drop l.place l.names) ≡ first_above l.limit (value_in l.values) 0 l.names
