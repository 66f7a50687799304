-- One slug more.
use Rattle.enrol_states.specs.Statuses.{IsSlug}
use Rattle.enrol_states.proofs.Alls.{all_more, all_taken}
use Rattle.enrol_states.proofs.soundness.slugs_fit.Goals as goal

pub loop-slug-preserved : goal.loop-slug-preserved
loop-slug-preserved c = all_more IsSlug c.args.slugs.now c.loop-slug.slug-index c.slug-item.result c.loop-slug-test.true c.slug-item.is c.loop-slug.invariant c.slug_fits.ensures

pub returns : goal.returns
returns c = all_taken IsSlug c.args.slugs.now c.loop-slug.slug-index c.loop-slug-test.false c.loop-slug.invariant
