use Rattle.std.proofs.Common.{rules, ◌≡◌, map, get_or, sym, ap, ◌∙◌, subst}
use Rattle.std.specs.Prelude.{slice_set}
use Rattle.std.proofs.lemmas.Fn.{always_returns_same}
use Rattle.enrol_states.specs.Order.{Rise}
use Rattle.enrol_states.specs.State.{slugs_of}
use Rattle.enrol_states.specs.Commands.{opted_out_of, row_opted_out}
use Rattle.enrol_states.proofs.Answered.{if_listed}
use Rattle.enrol_states.proofs.Ordered.{order_by, place_searched}
use Rattle.enrol_states.proofs.Lookups.{slug_of}
use Rattle.enrol_states.proofs.OptingOut.{opted_out-at, place-stay}
use Rattle.enrol_states.proofs.joining.rows_opted_out_of.Goals as goal

pub returns-in_ok-row-in-Ok-clause-rows : goal.returns-in_ok-row-in-Ok-clause-rows
returns-in_ok-row-in-Ok-clause-rows c =
    let slug = c.args.slug.now in
    let items = c.as_slice-items.result.now in
    let place = c.in-Ok.place in
    let d = c.index-items-place.result in
    let rise = subst (λ rs. Rise (slugs_of rs)) (sym c.as_slice-items.ensures) c.requires in
    let here = c.in-Ok.ensures.position (order_by slug_of slug) (always_returns_same _ _ _ (λ a r g called. search rules)) in
    let out = opted_out-at slug items place d c.in-Ok.ensures.bound rise (here d) in
    let row = c.in_ok-row-in-Ok.ensures ∙ ap row_opted_out c.index-items-place.is in
    if_listed c.with_row_at.result _ _ (ap (slice_set c.args.rows.now place) row ∙ subst (λ rs. slice_set rs place (row_opted_out (get_or items place d)) ≡ map (opted_out_of slug) rs) c.as_slice-items.ensures out) c.with_row_at.ensures.rows

pub returns-in-Err-clause-rows : goal.returns-in-Err-clause-rows
returns-in-Err-clause-rows c =
    let slug = c.args.slug.now in
    let items = c.as_slice-items.result.now in
    let rise = subst (λ rs. Rise (slugs_of rs)) (sym c.as_slice-items.ensures) c.requires in
    let nowhere = c.in-Err.ensures.position (order_by slug_of slug) (always_returns_same _ _ _ (λ a r g called. search rules)) in
    let left = place-stay slug items c.in-Err.field-0 (place_searched slug_of slug items c.in-Err.field-0 rise nowhere) in
    if_listed c.same.result _ _ (sym (subst (λ rs. map (opted_out_of slug) rs ≡ rs) c.as_slice-items.ensures left)) c.same.ensures.list
