use Rattle.std.proofs.Common.{arith}
use Rattle.std.proofs.lemmas.Result.{err_from_is_err_and}
use Rattle.change_outbox.proofs.FoundRows.{err_of, none_at, rows_more, numbers_more, slugs_more}
use Rattle.change_outbox.proofs.reading.changes_from.Goals as goal

pub returns-in_err-change_in-clause-none : goal.returns-in_err-change_in-clause-none
returns-in_err-change_in-clause-none c =
    let p = err_from_is_err_and c.from_residual-in_err-change_in.result c.from_residual-in_err-change_in.ensures.1 in
    rw (p.1, p.2) (λ e changes numbers slugs same. none_at c.args.first c.loop-row.number changes c.args.rows.now c.loop-row.row-index c.row-item.result c.loop-row-test.true c.row-item.is c.loop-row.invariant.number
    (c.in_err-change_in.ensures.none (err_of _ _ e)) numbers slugs same)

pub loop-row-preserved : goal.loop-row-preserved
loop-row-preserved c =
    let rows = c.args.rows.now in
    let i = c.loop-row.row-index in
    let before = c.loop-row.changes.items in
    let after = c.push.new.self.items in
    let change = c.in_ok-change_in.field-0 in
    let inv = c.loop-row.invariant in
    record {
      rows = rows_more rows i c.row-item.result before after change c.loop-row-test.true inv.rows c.in_ok-push.ensures.items c.row-item.is c.in_ok-change_in.ensures.row;
      numbers = numbers_more rows i c.row-item.result before after change c.loop-row-test.true inv.rows c.in_ok-push.ensures.items c.args.first c.loop-row.number inv.number inv.numbers c.in_ok-change_in.ensures.number;
      slugs = slugs_more rows i c.row-item.result before after change c.loop-row-test.true inv.rows c.in_ok-push.ensures.items inv.slugs c.in_ok-change_in.ensures.slugs;
      number = omega arith;
    }
