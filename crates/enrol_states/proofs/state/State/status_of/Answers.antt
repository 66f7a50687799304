use Rattle.std.proofs.Common.{rules, sym, ap, ◌∙◌, subst}
use Rattle.std.proofs.lemmas.Fn.{always_returns_same}
use Rattle.enrol_states.specs.Order.{Rise}
use Rattle.enrol_states.specs.State.{slugs_of, status_of}
use Rattle.enrol_states.proofs.Ordered.{order_by}
use Rattle.enrol_states.proofs.Lookups.{slug_of, status-at, status-absent}
use Rattle.enrol_states.proofs.state.State.status_of.Goals as goal

pub returns-in-Ok : goal.returns-in-Ok
returns-in-Ok c =
    let rows = c.as_slice-rows.result.now in
    let slug = c.args.slug.now in
    let rise = subst (λ rs. Rise (slugs_of rs)) (sym c.as_slice-rows.ensures) c.requires in
    let here = c.in-Ok.ensures.position (order_by slug_of slug) (always_returns_same _ _ _ (λ a r g called. search rules)) in
    sym (status-at slug rows c.in-Ok.place c.index-rows-place.result c.in-Ok.ensures.bound rise (here c.index-rows-place.result)) ∙ ap (λ rs. status_of slug rs) c.as_slice-rows.ensures

pub returns-in-Err : goal.returns-in-Err
returns-in-Err c =
    let rows = c.as_slice-rows.result.now in
    let slug = c.args.slug.now in
    let rise = subst (λ rs. Rise (slugs_of rs)) (sym c.as_slice-rows.ensures) c.requires in
    let nowhere = c.in-Err.ensures.position (order_by slug_of slug) (always_returns_same _ _ _ (λ a r g called. search rules)) in
    sym (status-absent slug rows c.in-Err.field-0 rise nowhere) ∙ ap (λ rs. status_of slug rs) c.as_slice-rows.ensures
