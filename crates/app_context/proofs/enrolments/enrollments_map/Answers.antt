use Rattle.std.proofs.Common.{map, take, ap, sym, subst, ◌∙◌, take_all}
use Rattle.json_tree.specs.Json.{IsAbove}
use Rattle.enrol_states.specs.declared.state.Row.{Row}
use Rattle.app_context.specs.Enrolments.{enrolments_of, branch_json}
use Rattle.app_context.proofs.Loops.{one_more}
use Rattle.app_context.proofs.Rows.{branches_join, above_rows}
use Rattle.app_context.proofs.enrolments.enrollments_map.Goals as goal

pub push_branch-requires : goal.push_branch-requires
push_branch-requires c =
    let rows = c.args.rows.now in
    let i = c.loop-row.row-index in
    let row = c.row-item.result in
    let above = subst (λ (r : Row). IsAbove r.slug (map branch_json (enrolments_of (take i rows)))) (sym c.row-item.is) (above_rows rows i row c.loop-row-test.true c.requires) in
    subst (IsAbove row.slug) (sym c.loop-row.invariant) above

pub loop-row-preserved : goal.loop-row-preserved
loop-row-preserved c =
    one_more (λ rs. map branch_json (enrolments_of rs)) branches_join c.args.rows.now c.loop-row.row-index c.row-item.result _ _ c.loop-row-test.true c.row-item.is c.loop-row.invariant c.in_ok-push_branch.ensures

pub returns : goal.returns
returns c = c.loop-row.invariant ∙ ap (λ rs. map branch_json (enrolments_of rs)) (take_all _ c.args.rows.now c.loop-row-test.false)
