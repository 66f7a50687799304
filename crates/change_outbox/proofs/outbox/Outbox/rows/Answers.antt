use Rattle.std.proofs.Common.{rules, ◌≡◌, sym, subst}
use Rattle.row_batches.specs.Rows.{AreRows}
use Rattle.change_outbox.specs.Rows.{rows_of}
use Rattle.change_outbox.proofs.Order.{rows_rise}
use Rattle.change_outbox.proofs.outbox.Outbox.rows.Goals as goal

pub returns-clause-order : goal.returns-clause-order
returns-clause-order c =
    let rows : c.add_rows.new.rows ≡ rows_of c.args.self.now = search rules in
    subst AreRows (sym rows) (rows_rise c.args.self.now c.next.ensures.sound.numbered)
