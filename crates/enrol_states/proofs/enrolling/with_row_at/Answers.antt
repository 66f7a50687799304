use Rattle.std.proofs.Common.{rules, ◌≡◌, true, List, get_or, ◌∙◌, ap}
use Rattle.enrol_states.specs.Equal.{row_eq}
use Rattle.enrol_states.specs.declared.state.Row.{Row}
use Rattle.enrol_states.proofs.Answered.{if_listed, same_row}
use Rattle.enrol_states.proofs.enrolling.with_row_at.Goals as goal

pub returns-then-eq-clause-rows : goal.returns-then-eq-clause-rows
returns-then-eq-clause-rows c =
    let d = c.index-items-place.result in
    let same : row_eq d c.args.row ≡ true = search rules in
    let here : d ≡ get_or c.args.rows.now c.args.place d = c.index-items-place.is ∙ ap (λ (rs : List Row). get_or rs c.args.place d) c.as_slice-items.ensures in
    if_listed c.same.result _ _ (same_row c.args.rows.now c.args.place d c.args.row here same) c.same.ensures.list
