-- The rows of names in order are in order.
use Rattle.std.proofs.Common.{rules, ◌≡◌, sym, subst}
use Rattle.row_batches.specs.Rows.{AreRows}
use Rattle.event_counts.specs.Rows.{rows_of}
use Rattle.event_counts.proofs.Rising.{rows_rise}
use Rattle.event_counts.proofs.rows.rows_of.Goals as goal

pub returns-clause-order : goal.returns-clause-order
returns-clause-order c =
    let are : c.add_rows.new.rows ≡ rows_of c.args.names.now = search rules in
    subst AreRows (sym are) (rows_rise c.args.names.now c.requires)
