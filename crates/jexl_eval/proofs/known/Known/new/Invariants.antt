use Rattle.jexl_eval.specs.Parts.{AreUnknown}
use Rattle.jexl_eval.proofs.known.Known.new.Given as goal

abbrev pub invariant-places : goal.invariant-places
invariant-places l = AreUnknown l.values.items
