use Rattle.std.proofs.lemmas.Result.{err_from_is_err_and}
use Rattle.change_outbox.proofs.FoundRows.{err_of, parts_have_slugs}
use Rattle.change_outbox.proofs.reading.change_in.Goals as goal

pub returns-in_err-slug_in-clause-none : goal.returns-in_err-slug_in-clause-none
returns-in_err-slug_in-clause-none c =
    let p = err_from_is_err_and c.from_residual.result c.from_residual.ensures.1 in
    rw (p.1, p.2) (λ e d number has is. c.in_err-slug_in.ensures.none (err_of _ _ e)
    (parts_have_slugs c.as_slice-2.result.now c.args.row.now c.in-Some.parts.kind c.in-Some.parts.slug.now c.in-Some.parts.branch.now d c.as_slice-2.ensures c.in-Some.ensures.some has is).0)

pub returns-in_err-slug_in-2-clause-none : goal.returns-in_err-slug_in-2-clause-none
returns-in_err-slug_in-2-clause-none c =
    let p = err_from_is_err_and c.from_residual-in_err-slug_in-2.result c.from_residual-in_err-slug_in-2.ensures.1 in
    rw (p.1, p.2) (λ e d number has is. c.in_err-slug_in-2.ensures.none (err_of _ _ e)
    (parts_have_slugs c.as_slice-2.result.now c.args.row.now c.in-Some.parts.kind c.in-Some.parts.slug.now c.in-Some.parts.branch.now d c.as_slice-2.ensures c.in-Some.ensures.some has is).1)
