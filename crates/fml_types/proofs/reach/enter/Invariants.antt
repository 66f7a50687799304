use Rattle.std.proofs.Common.{◌≡◌, drop}
use Rattle.fml_types.specs.Reach.{entered}
use Rattle.fml_types.proofs.reach.enter.Given as goal

abbrev pub invariant-loop-part : goal.invariant-loop-part
invariant-loop-part l = entered (drop l.part-index l.parts) l.place l.rows.items ≡ entered l.parts l.place l.fn.rows.items
