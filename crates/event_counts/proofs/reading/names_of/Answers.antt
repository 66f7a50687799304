-- A row that is that of no name.
use Rattle.std.proofs.Common.{◌≡◌, Result, Ok, Err, ap, sym}
use Rattle.std.specs.Result.{IsErrAnd, IsErrOf}
use Rattle.event_counts.specs.declared.fault.CountsFault.{CountsFault}
use Rattle.event_counts.specs.declared.fault.CountsFault.TheVariants.{NotCounts}
use Rattle.event_counts.proofs.RowsRead.{no_row_at}
use Rattle.event_counts.proofs.reading.names_of.Goals as goal

same_fault : {T : Type 0} (r : Result T CountsFault) (fault : CountsFault) → IsErrAnd r (λ e. e ≡ fault) → IsErrOf r NotCounts → fault ≡ NotCounts
same_fault (Ok x) fault has is = absurd has
same_fault (Err e) fault has is = cc

pub returns-in_err-counts_of_row-clause-not_counts : goal.returns-in_err-counts_of_row-clause-not_counts
returns-in_err-counts_of_row-clause-not_counts c = λ is.
    let fault : c.in_err-counts_of_row.field-0.0 ≡ NotCounts = same_fault c.from_residual-in_err-counts_of_row.result c.in_err-counts_of_row.field-0.0 c.from_residual-in_err-counts_of_row.ensures.1 is in
    no_row_at c.args.rows.now c.loop-row.row-index c.row-item.result c.row-item.result c.loop-row-test.true (sym c.row-item.is) (c.in_err-counts_of_row.ensures.not_counts (ap Err fault))
