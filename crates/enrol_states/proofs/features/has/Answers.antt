use Rattle.std.proofs.Common.{rules, sym, ap, ◌∙◌, subst}
use Rattle.std.proofs.lemmas.Fn.{always_returns_same}
use Rattle.enrol_states.specs.Order.{Rise, is_in}
use Rattle.enrol_states.proofs.Ordered.{order_by, is_in-searched, is_in-missed}
use Rattle.enrol_states.proofs.features.has.Goals as goal

pub returns-in-Ok : goal.returns-in-Ok
returns-in-Ok c =
    let slugs = c.as_slice-texts.result.now in
    let slug = c.args.text.now in
    let here = c.in-Ok.ensures.position (order_by (λ t. t) slug) (always_returns_same _ _ _ (λ a r g called. search rules)) in
    sym (is_in-searched slug slugs c.in-Ok.field-0 c.in-Ok.ensures.bound here) ∙ ap (λ ts. is_in ts slug) c.as_slice-texts.ensures

pub returns-in-Err : goal.returns-in-Err
returns-in-Err c =
    let slugs = c.as_slice-texts.result.now in
    let slug = c.args.text.now in
    let rise = subst Rise (sym c.as_slice-texts.ensures) c.requires in
    let nowhere = c.in-Err.ensures.position (order_by (λ t. t) slug) (always_returns_same _ _ _ (λ a r g called. search rules)) in
    sym (is_in-missed slug slugs c.in-Err.field-0 rise nowhere) ∙ ap (λ ts. is_in ts slug) c.as_slice-texts.ensures
