use Rattle.std.proofs.Common.{◌≡◌, sym, subst}
use Rattle.std.specs.List.{remove}
use Rattle.enrol_states.specs.Order.{Rise}
use Rattle.enrol_states.specs.Commands.{without_text}
use Rattle.enrol_states.proofs.Answered.{if_listed}
use Rattle.enrol_states.proofs.Ordered.{place_missed}
use Rattle.enrol_states.proofs.Enrolments.{without-at, without-place}
use Rattle.enrol_states.proofs.enrolling.without_slug.Goals as goal

pub returns-in-Ok-clause-others : goal.returns-in-Ok-clause-others
returns-in-Ok-clause-others c =
    let slug = c.args.slug.now in
    let slugs = c.as_slice.result.now in
    let rise = subst Rise (sym c.as_slice.ensures) c.requires in
    let left = without-at slug slugs c.in-Ok.place slug c.in-Ok.ensures.bound rise (c.in-Ok.ensures.ok slug) in
    if_listed c.removed.result _ _ (subst (λ ts. remove ts c.in-Ok.place ≡ without_text slug ts) c.as_slice.ensures left) c.removed.ensures.list

pub returns-in-Err-clause-others : goal.returns-in-Err-clause-others
returns-in-Err-clause-others c =
    let slug = c.args.slug.now in
    let slugs = c.as_slice.result.now in
    let missed = place_missed slug slugs c.in-Err.field-0 (subst Rise (sym c.as_slice.ensures) c.requires) c.in-Err.ensures.position in
    let left = without-place slug slugs c.in-Err.field-0 missed in
    if_listed c.same.result _ _ (sym (subst (λ ts. without_text slug ts ≡ ts) c.as_slice.ensures left)) c.same.ensures.list
