use Rattle.std.proofs.lemmas.Result.{err_from_is_err_and}
use Rattle.pref_bindings.proofs.Merged.{merged_more, merged_none}
use Rattle.pref_bindings.proofs.Read.{err_of}
use Rattle.pref_bindings.proofs.reading.merged.Goals as goal

pub returns-in_err-read-clause-none : goal.returns-in_err-read-clause-none
returns-in_err-read-clause-none c =
    let p = err_from_is_err_and c.from_residual.result c.from_residual.ensures.1 in
    rw (p.1, p.2) (λ e. merged_none c.args.holds.now c.args.values.now c.loop-row.preferences c.loop-row.rest.now c.loop-row.row-index c.row-item.result c.loop-row.invariant c.loop-row-test.true c.row-item.is
    (c.in_err-read.ensures.none (err_of _ _ e)))

pub loop-row-preserved : goal.loop-row-preserved
loop-row-preserved c =
    merged_more c.args.holds.now c.args.values.now c.loop-row.preferences c.loop-row.rest.now c.loop-row.row-index c.row-item.result c.in_ok-read.read.preference c.in_ok-read.read.holds.now c.push.new.self
    c.loop-row.invariant c.loop-row-test.true c.row-item.is c.in_ok-read.ensures.value c.in_ok-read.ensures.hold c.in_ok-read.ensures.sound c.in_ok-read.ensures.alone c.in_ok-push.ensures.ok
