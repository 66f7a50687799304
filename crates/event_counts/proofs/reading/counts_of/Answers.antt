-- Names that aren't in order.
use Rattle.std.proofs.Common.{IsTrue, sym, subst}
use Rattle.event_counts.specs.Sound.{AreInOrder}
use Rattle.event_counts.proofs.RowsRead.{not_in_order}
use Rattle.event_counts.proofs.reading.counts_of.Goals as goal

pub returns-then-not-are_in_order-clause-not_counts : goal.returns-then-not-are_in_order-clause-not_counts
returns-then-not-are_in_order-clause-not_counts c = λ is.
    not_in_order c.args.rows.now c.in_ok-names.names.items c.in_ok-names.ensures.sound c.in_ok-names.ensures.rows
    (λ order. let yes : IsTrue c.are_in_order.result = c.are_in_order.ensures.1 (subst AreInOrder (sym c.as_slice.ensures.value) order) in let no = c.if-not-are_in_order.true in absurd (cc))
