use Rattle.std.proofs.Common.{◌≡◌}
use Rattle.jexl_parser.specs.Kept.{see}
use Rattle.jexl_parser.specs.Negations.{nots}
use Rattle.jexl_parser.proofs.negation.negated_times.Given as goal

abbrev pub invariant-loop-left : goal.invariant-loop-left
invariant-loop-left l = record { same : nots l.count (see l.fn.inside) ≡ nots l.left (see l.part) }

abbrev pub decreases-loop-left : goal.decreases-loop-left
decreases-loop-left l = l.left
