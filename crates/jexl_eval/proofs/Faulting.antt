-- What comes of a step that may fail.
use Rattle.std.proofs.Common.{◌≡◌, Result, Ok, sym, ap, subst}
use Rattle.jexl_eval.specs.declared.fault.EvalFault.{EvalFault}
use Rattle.jexl_eval.specs.declared.fault.EvalFault.TheVariants as faults
use Rattle.jexl_eval.specs.Faults.{Fault, ◌>>=◌}
use Rattle.json_tree.specs.Json.{Json}
use Rattle.jexl_eval.specs.Gives.{Fails}
use Rattle.jexl_eval.specs.Meaning.{truth_of, truth_meant}

-- what fails on the way fails the whole
pub fails_then : {A B : Type 0} (e : EvalFault) (r : Result A Fault) (f : A → Result B Fault) → Fails e r → Fails e (r >>= f)
fails_then faults.Overflow r f h = ap (λ x. x >>= f) h
fails_then faults.ZeroDivisor r f h = ap (λ x. x >>= f) h
fails_then faults.Kind r f h = ap (λ x. x >>= f) h
fails_then faults.UnknownTransform r f h = ap (λ x. x >>= f) h
fails_then faults.BadArguments r f h = ap (λ x. x >>= f) h
fails_then faults.OutOfMemory r f h = h

-- so does what has no truth value
pub truth_fails : (e : EvalFault) (meant : Result Json Fault) → Fails e meant → Fails e (truth_meant meant)
truth_fails e meant h = fails_then e meant (λ x. Ok (truth_of x)) h

pub then_ok : {A B : Type 0} (m : Result A Fault) (x : A) (k : A → Result B Fault) → m ≡ Ok x → (m >>= k) ≡ k x
then_ok m x k e = ap (λ r. r >>= k) e

-- what goes on as k does, once m is had
pub goes : {A B : Type 0} (P : Result B Fault → Type 0) (m : Result A Fault) (x : A) (k : A → Result B Fault) → m ≡ Ok x → P (k x) → P (m >>= k)
goes P m x k e h = subst P (sym (then_ok m x k e)) h
