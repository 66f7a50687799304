use Rattle.std.proofs.Common.{None}
use Rattle.fml_types.proofs.Raising.{Raising, left}
use Rattle.fml_types.proofs.reach.raise_from.Given as goal

abbrev pub invariant-loop-next : goal.invariant-loop-next
invariant-loop-next l = Raising l.mentioned_by l.place l.fn.values l.value None (l.values, l.pending.items)

abbrev pub decreases-loop-next : goal.decreases-loop-next
decreases-loop-next l = left l.value (l.values, l.pending.items)
