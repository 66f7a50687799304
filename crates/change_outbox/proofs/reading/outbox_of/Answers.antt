use Rattle.std.proofs.Common.{rules, ◌<◌, length}
use Rattle.std.proofs.lemmas.Result.{err_from_is_err_and}
use Rattle.change_outbox.proofs.FoundRows.{err_of, no_entries}
use Rattle.change_outbox.proofs.reading.outbox_of.Goals as goal

pub returns-in_err-changes-in-len1-up-clause-not_an_outbox : goal.returns-in_err-changes-in-len1-up-clause-not_an_outbox
returns-in_err-changes-in-len1-up-clause-not_an_outbox c =
    let p = err_from_is_err_and c.from_residual-in_err-changes-in-len1-up.result c.from_residual-in_err-changes-in-len1-up.ensures.1 in
    let some : 0 < length c.args.rows.now = search rules in
    let next = c.in_ok-next-in-len1-up.ensures in
    rw (p.1, p.2) (λ e o sound same. no_entries c.args.rows.now c.first-item.result c.in_ok-next-in-len1-up.next o some c.first-item.is next.row next.high (c.in_err-changes-in-len1-up.ensures.none (err_of _ _ e)) sound same)
