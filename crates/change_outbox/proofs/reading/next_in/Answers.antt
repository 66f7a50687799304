use Rattle.std.proofs.Common.{◌≡◌, arith}
use Rattle.change_outbox.proofs.FoundRows.{read_next}
use Rattle.change_outbox.proofs.reading.next_in.Goals as goal

pub returns-in_default-clause-none : goal.returns-in_default-clause-none
returns-in_default-clause-none c = λ e next low high is.
    let same : c.in-Some.next ≡ next = read_next c.as_slice-3.result.now c.args.row.now c.in-Some.next next c.as_slice-3.ensures c.in-Some.ensures.some c.in-Some.ensures.fits high is in
    omega (arith, same)

pub returns-in_default-2-clause-none : goal.returns-in_default-2-clause-none
returns-in_default-2-clause-none c = λ e next low high is.
    let same : c.in-Some.next ≡ next = read_next c.as_slice-3.result.now c.args.row.now c.in-Some.next next c.as_slice-3.ensures c.in-Some.ensures.some c.in-Some.ensures.fits high is in
    omega (arith, same)
