use Rattle.std.proofs.Common.{rules, ◌≡◌, sym, subst}
use Rattle.std.specs.Prelude.{slice_set}
use Rattle.std.specs.List.{insert}
use Rattle.std.proofs.lemmas.Fn.{always_returns_same}
use Rattle.enrol_states.specs.Order.{Rise}
use Rattle.enrol_states.specs.State.{slugs_of}
use Rattle.enrol_states.specs.Commands.{with_row}
use Rattle.enrol_states.proofs.Answered.{if_listed}
use Rattle.enrol_states.proofs.Ordered.{order_by, place_searched}
use Rattle.enrol_states.proofs.Lookups.{slug_of}
use Rattle.enrol_states.proofs.Enrolments.{with_row-at, with_row-place}
use Rattle.enrol_states.proofs.enrolling.with_row.Goals as goal

pub returns-in-Ok-clause-rows : goal.returns-in-Ok-clause-rows
returns-in-Ok-clause-rows c =
    let rows = c.as_slice.result.now in
    let row = c.args.row in
    let here = c.in-Ok.ensures.position (order_by slug_of row.slug) (always_returns_same _ _ _ (λ a r g called. search rules)) in
    let rise = subst (λ rs. Rise (slugs_of rs)) (sym c.as_slice.ensures) c.requires in
    let placed = with_row-at row rows c.in-Ok.place row c.in-Ok.ensures.bound rise (here row) in
    if_listed c.with_row_at.result _ _ (subst (λ rs. slice_set rs c.in-Ok.place row ≡ with_row row rs) c.as_slice.ensures placed) c.with_row_at.ensures.rows

pub returns-in-Err-clause-rows : goal.returns-in-Err-clause-rows
returns-in-Err-clause-rows c =
    let rows = c.as_slice.result.now in
    let row = c.args.row in
    let nowhere = c.in-Err.ensures.position (order_by slug_of row.slug) (always_returns_same _ _ _ (λ a r g called. search rules)) in
    let rise = subst (λ rs. Rise (slugs_of rs)) (sym c.as_slice.ensures) c.requires in
    let placed = with_row-place row rows c.in-Err.place (place_searched slug_of row.slug rows c.in-Err.place rise nowhere) in
    if_listed c.inserted.result _ _ (subst (λ rs. insert rs c.in-Err.place row ≡ with_row row rs) c.as_slice.ensures placed) c.inserted.ensures.list
