use Rattle.std.proofs.Common.{map, ap, ◌∙◌, take_all}
use Rattle.app_context.specs.Enrolments.{enrolments_of, slug_json}
use Rattle.app_context.proofs.Loops.{one_more}
use Rattle.app_context.proofs.Rows.{slugs_join}
use Rattle.app_context.proofs.enrolments.enrollments.Goals as goal

pub loop-row-preserved : goal.loop-row-preserved
loop-row-preserved c =
    one_more (λ rs. map slug_json (enrolments_of rs)) slugs_join c.args.rows.now c.loop-row.row-index c.row-item.result _ _ c.loop-row-test.true c.row-item.is c.loop-row.invariant c.in_ok-push_slug.ensures

pub returns : goal.returns
returns c = c.loop-row.invariant ∙ ap (λ rs. map slug_json (enrolments_of rs)) (take_all _ c.args.rows.now c.loop-row-test.false)
