-- The rows of the next preference, where there is room for them.
use Rattle.std.proofs.Common.{Option, Some, None, ap, arith, take_all}
use Rattle.std.specs.Prelude.{IfNone}
use Rattle.pref_bindings.proofs.RowSizes.{preferences_size, rows_size, size_front, size_more}
use Rattle.pref_bindings.proofs.size.preferences_size.Goals as goal

always : {A : Type 0} {P : Type 0} (o : Option A) → P → IfNone o P
always None is = is
always (Some x) is = tt

pub returns-in_err-left-clause-beyond : goal.returns-in_err-left-clause-beyond
returns-in_err-left-clause-beyond c =
    let ps = c.args.preferences.now in
    let front = size_front ps c.loop-preference.preference-index c.preference-item.result c.loop-preference-test.true c.preference-item.is in
    always c.from_residual.result (omega (arith, c.loop-preference.invariant.left, c.in_err-left.ensures.none, front, rows_size ps))

pub loop-preference-preserved : goal.loop-preference-preserved
loop-preference-preserved c =
    record {
      left = omega (arith, c.loop-preference.invariant.left, c.in_ok-left.ensures.some, size_more c.args.preferences.now c.loop-preference.preference-index c.preference-item.result c.loop-preference-test.true c.preference-item.is);
    }

pub returns-clause-some : goal.returns-clause-some
returns-clause-some c =
    let ps = c.args.preferences.now in
    omega (arith, c.loop-preference.invariant.left, ap preferences_size (take_all c.loop-preference.preference-index ps c.loop-preference-test.false), rows_size ps)
