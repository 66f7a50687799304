use Rattle.std.proofs.Common.{ap, ◌∙◌}
use Rattle.fml_merge.specs.Faults.{bad_field}
use Rattle.fml_merge.proofs.Firsts.{field_next, field_first}
use Rattle.fml_merge.proofs.defaults.bad_field.Goals as goal

pub returns-then-not-default_fits : goal.returns-then-not-default_fits
returns-then-not-default_fits c =
    let types = c.args.types.now in
    field_first types c.as_slice-pairs.result.now c.loop-name.name-index c.loop-name-item.result c.default_fits.result c.loop-name-test.true c.loop-name-item.is c.default_fits.ensures c.if-not-default_fits.true
    ∙ c.loop-name.invariant ∙ ap (bad_field types) c.as_slice-pairs.ensures.pairs

pub loop-name-preserved : goal.loop-name-preserved
loop-name-preserved c =
    field_next c.args.types.now c.as_slice-pairs.result.now c.loop-name.name-index c.loop-name-item.result c.default_fits.result c.loop-name-test.true c.loop-name-item.is c.default_fits.ensures c.if-not-default_fits.false
    ∙ c.loop-name.invariant
