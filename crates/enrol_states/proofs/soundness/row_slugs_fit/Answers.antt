-- One row more.
use Rattle.enrol_states.specs.Statuses.{IsSlug}
use Rattle.enrol_states.specs.declared.state.Row.{Row}
use Rattle.enrol_states.proofs.Alls.{all_more, all_taken}
use Rattle.enrol_states.proofs.soundness.row_slugs_fit.Goals as goal

abbrev HasSlug : Row → Type 0
HasSlug row = IsSlug row.slug

pub loop-row-preserved : goal.loop-row-preserved
loop-row-preserved c = all_more HasSlug c.args.rows.now c.loop-row.row-index c.row-item.result c.loop-row-test.true c.row-item.is c.loop-row.invariant c.slug_fits.ensures

pub returns : goal.returns
returns c = all_taken HasSlug c.args.rows.now c.loop-row.row-index c.loop-row-test.false c.loop-row.invariant
