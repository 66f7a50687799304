-- What is said of the one thing that a call may hand out.
use Rattle.std.proofs.Common.{◌≡◌, Result, Ok, Err, IfOk, subst, sym}
use Rattle.client_steps.specs.declared.asked.Asked.{Asked}

-- what holds of what is asked for holds where memory is found
pub asked_as : {E : Type 0} (P : Asked → Type 0) (new : Asked) (result : Result Asked E) → IfOk result (λ asked. asked ≡ new) → P new → IfOk result P
asked_as P new (Ok asked) is has = subst P (sym is) has
asked_as P new (Err fault) is has = tt
