use Rattle.std.proofs.Common.{◌∙◌}
use Rattle.fml_merge.proofs.Firsts.{entry_next, entry_first}
use Rattle.fml_merge.proofs.defaults.bad_entry.Goals as goal

pub returns-then-not-entry_fits : goal.returns-then-not-entry_fits
returns-then-not-entry_fits c =
    entry_first c.args.types.now c.args.variables.now c.args.entries.now c.loop-index.index c.index-entries-index.result c.entry_fits.result c.loop-index-test.true c.index-entries-index.is c.entry_fits.ensures c.if-not-entry_fits.true
    ∙ c.loop-index.invariant

pub loop-index-preserved : goal.loop-index-preserved
loop-index-preserved c =
    entry_next c.args.types.now c.args.variables.now c.args.entries.now c.loop-index.index c.index-entries-index.result c.entry_fits.result c.loop-index-test.true c.index-entries-index.is c.entry_fits.ensures c.if-not-entry_fits.false
    ∙ c.loop-index.invariant
