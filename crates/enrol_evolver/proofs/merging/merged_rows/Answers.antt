use Rattle.std.proofs.Common.{arith, ◌≡◌, [], ◌++◌, sym, ap, ◌∙◌}
use Rattle.std.proofs.lemmas.Grind.{common_steps}
use Rattle.enrol_evolver.proofs.Results.{if_ok}
use Rattle.enrol_evolver.proofs.MergedRows.{merged}
use Rattle.enrol_evolver.proofs.Evolved.{merged-is}
use Rattle.enrol_evolver.proofs.merging.merged_rows.Goals as goal

pub returns : goal.returns
returns c =
    let context = c.args.client.now.context.now in
    let s = c.args.client.now.state.now in
    let now = c.args.client.now.moment in
    let none : c.loop-row.row-iterator.rest.items ≡ [] = grind (arith, common_steps) in
    if_ok c.from_sequence.result _ _
    (c.in_ok-add_all_ended.ensures ∙ ap (λ rs. c.loop-row.rows ++ merged context s now rs c.loop-row.old.now) (sym none) ∙ c.loop-row.invariant ∙ ap (λ rs. merged context s now rs s.rows) c.requires.live ∙ merged-is context s now c.requires.recipes c.requires.in_order.rows)
    c.from_sequence.ensures
