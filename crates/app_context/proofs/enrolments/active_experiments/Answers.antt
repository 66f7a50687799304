use Rattle.std.proofs.Common.{map, ap, ◌∙◌, take_all}
use Rattle.json_tree.specs.Json.{text}
use Rattle.app_context.specs.Enrolments.{active_slugs}
use Rattle.app_context.proofs.Loops.{one_more}
use Rattle.app_context.proofs.Rows.{active_join}
use Rattle.app_context.proofs.enrolments.active_experiments.Goals as goal

pub loop-row-preserved : goal.loop-row-preserved
loop-row-preserved c =
    one_more (λ rs. map text (active_slugs rs)) active_join c.args.rows.now c.loop-row.row-index c.row-item.result _ _ c.loop-row-test.true c.row-item.is c.loop-row.invariant c.in_ok-push_active.ensures

pub returns : goal.returns
returns c = c.loop-row.invariant ∙ ap (λ rs. map text (active_slugs rs)) (take_all _ c.args.rows.now c.loop-row-test.false)
