-- Why a row is that of no name.
use Rattle.std.proofs.Common.{arith}
use Rattle.event_counts.proofs.Values.{other_length, too_late}
use Rattle.event_counts.proofs.reading.counts_of_row.Goals as goal

pub returns-then-value-ne-VALUE_LEN-clause-not_counts : goal.returns-then-value-ne-VALUE_LEN-clause-not_counts
returns-then-value-ne-VALUE_LEN-clause-not_counts c = λ is.
    other_length c.args.row.now c.as_slice-value.result.now c.as_slice-value.ensures (λ len. omega (arith, len))

pub returns-then-latest-gt-LAST_MOMENT-clause-not_counts : goal.returns-then-latest-gt-LAST_MOMENT-clause-not_counts
returns-then-latest-gt-LAST_MOMENT-clause-not_counts c = λ is.
    too_late c.args.row.now c.as_slice-value.result.now c.moment_in-latest.result c.as_slice-value.ensures c.moment_in-latest.ensures c.moment_in-latest.type_inv (omega arith)
