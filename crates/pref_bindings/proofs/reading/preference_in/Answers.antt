use Rattle.std.proofs.Common.{sym, ap, ◌∙◌}
use Rattle.std.proofs.lemmas.Result.{err_from_is_err_and}
use Rattle.row_batches.specs.declared.store_row.StoreRow.{StoreRow}
use Rattle.pref_bindings.proofs.Read.{err_of, none_of_rest}
use Rattle.pref_bindings.proofs.reading.preference_in.Goals as goal

pub returns-in_err-name-clause-none : goal.returns-in_err-name-clause-none
returns-in_err-name-clause-none c =
    let p = err_from_is_err_and c.from_residual.result c.from_residual.ensures.1 in
    rw (p.1, p.2) (λ e q rest is alone same held. c.in_err-name.ensures.none (err_of _ _ e) q.name is.name (c.as_slice.ensures ∙ ap (λ (r : StoreRow). r.key) same))

pub returns-in_err-value-clause-none : goal.returns-in_err-value-clause-none
returns-in_err-value-clause-none c =
    let p = err_from_is_err_and c.from_residual-in_err-value.result c.from_residual-in_err-value.ensures.1 in
    rw (p.1, p.2) (λ e q rest is alone same held. c.in_err-value.ensures.none (err_of _ _ e) q.value is.value (c.as_slice-2.ensures ∙ ap (λ (r : StoreRow). r.value) same))

pub returns-in_err-held-clause-none : goal.returns-in_err-held-clause-none
returns-in_err-held-clause-none c =
    let p = err_from_is_err_and c.from_residual-in_err-held.result c.from_residual-in_err-held.ensures.1 in
    rw (p.1, p.2) (λ e. none_of_rest c.in_ok-name.name c.args.row.now c.args.holds.now (sym c.as_slice.ensures ∙ c.in_ok-name.ensures.key) (c.in_err-held.ensures.none (err_of _ _ e)))
