use Rattle.std.proofs.Common.{◌≡◌, true, sym, ◌∙◌, subst}
use Rattle.enrol_states.specs.Order.{Rise, IsPlace, is_in}
use Rattle.enrol_states.proofs.Ordered.{is_in-searched, place_missed}
use Rattle.enrol_states.proofs.OptOuts.{insert-again, free_there}
use Rattle.enrol_states.proofs.joining.with_slug.Goals as goal

pub with_slug_at-requires-clause-place : goal.with_slug_at-requires-clause-place
with_slug_at-requires-clause-place c =
    let slug = c.args.slug.now in
    let slugs = c.as_slice.result.now in
    subst (λ ts. IsPlace slug ts c.in-Err.place) c.as_slice.ensures (place_missed slug slugs c.in-Err.place (subst Rise (sym c.as_slice.ensures) c.requires) c.in-Err.ensures.position)

pub returns-in_ok-same-in-Ok-clause-slugs : goal.returns-in_ok-same-in-Ok-clause-slugs
returns-in_ok-same-in-Ok-clause-slugs c =
    let slug = c.args.slug.now in
    let slugs = c.args.slugs.now in
    let there = subst (λ ts. is_in ts slug ≡ true) c.as_slice.ensures (is_in-searched slug c.as_slice.result.now c.in-Ok.field-0 c.in-Ok.ensures.bound c.in-Ok.ensures.ok) in
    (free_there slug slugs there, c.in_ok-same-in-Ok.ensures.list ∙ sym (insert-again slug slugs c.requires there))
