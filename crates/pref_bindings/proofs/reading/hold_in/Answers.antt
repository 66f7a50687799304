use Rattle.std.proofs.lemmas.Result.{err_from_is_err_and}
use Rattle.pref_bindings.proofs.Read.{err_of, none_of_before, none_of_holder}
use Rattle.pref_bindings.proofs.reading.hold_in.Goals as goal

pub returns-in_err-slug_in-clause-none : goal.returns-in_err-slug_in-clause-none
returns-in_err-slug_in-clause-none c =
    let p = err_from_is_err_and c.from_residual.result c.from_residual.ensures.1 in
    rw (p.1, p.2) (λ e. none_of_holder c.args.bytes.now c.in-Some.parts.holder.now c.in-Some.parts.before.now c.in-Some.ensures.some (c.in_err-slug_in.ensures.none (err_of _ _ e)))

pub returns-in_err-before_in-clause-none : goal.returns-in_err-before_in-clause-none
returns-in_err-before_in-clause-none c =
    let p = err_from_is_err_and c.from_residual-in_err-before_in.result c.from_residual-in_err-before_in.ensures.1 in
    rw (p.1, p.2) (λ e. none_of_before c.args.bytes.now c.in-Some.parts.holder.now c.in-Some.parts.before.now c.in-Some.ensures.some (c.in_err-before_in.ensures.none (err_of _ _ e)))
