-- The parts that the sections say are those of the one state of which the rows are a form.
use Rattle.std.proofs.Common.{◌≡◌, Err, ap, sym, ◌∙◌, subst}
use Rattle.std.specs.Prelude.{IsErrOf}
use Rattle.std.proofs.lemmas.Bool.{true≢false}
use Rattle.std.proofs.lemmas.Result.{err_from_is_err_and}
use Rattle.client_state.specs.Sound.{IsSound}
use Rattle.client_state.proofs.OneState.{one_of_parts}
use Rattle.client_state.proofs.SectionsRead.{form_sections, sections_form, sound_parts}
use Rattle.client_state.proofs.reading.client_state_of.Goals as goal

-- an error that is another's
err_of : {A B E : Type 0} (x y : E) → IsErrOf {T = A} {E = E} (Err x) y → IsErrOf {T = B} {E = E} (Err x) y
err_of x y is = let same : x ≡ y = cc in ap (λ z. Err z) same

pub returns-in_err-state-clause-not_a_state : goal.returns-in_err-state-clause-not_a_state
returns-in_err-state-clause-not_a_state c =
    let p = err_from_is_err_and c.from_residual.result c.from_residual.ensures.1 in
    rw (p.1, p.2) (λ e s sound form. c.in_err-state.ensures.not_a_state (err_of _ _ e) s (sound_parts s sound) (form_sections s c.args.rows.now c.sections_of.result c.sections_of.ensures form))

pub returns-then-is_whole-clause-state : goal.returns-then-is_whole-clause-state
returns-then-is_whole-clause-state c =
    (c.is_whole.ensures.0 c.if-is_whole.true, sections_form c.in_ok-state.state c.args.rows.now c.sections_of.result c.sections_of.ensures c.in_ok-state.ensures.sections)

pub returns-else-is_whole-clause-not_a_state : goal.returns-else-is_whole-clause-not_a_state
returns-else-is_whole-clause-not_a_state c none s sound form =
    let t = c.in_ok-state.state in
    let read = sections_form t c.args.rows.now c.sections_of.result c.sections_of.ensures c.in_ok-state.ensures.sections in
    let same = one_of_parts c.args.rows.now s t (sound_parts s sound) c.in_ok-state.ensures.sound form read in
    true≢false (sym (c.is_whole.ensures.1 (subst IsSound same sound)) ∙ c.if-is_whole.false)
