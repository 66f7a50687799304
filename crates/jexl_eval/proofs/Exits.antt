-- The exits of `?`, and the meaning of a node by its tree.
use Rattle.std.proofs.Common.{◌≡◌, ℕ, Bool, List, Result, sym, ap, subst, ◌∙◌}
use Rattle.std.specs.Result.{IsErrAnd}
use Rattle.std.proofs.lemmas.Result.{err_from_is_err_and}
use Rattle.json_tree.specs.Json.{Json, Members}
use Rattle.jexl_parser.specs.Tree.{Tree}
use Rattle.jexl_eval.specs.declared.fault.EvalFault.{EvalFault}
use Rattle.jexl_eval.specs.declared.fault.EvalFault.TheVariants as faults
use Rattle.jexl_eval.specs.declared.found.Found.{Found}
use Rattle.jexl_eval.specs.Faults.{Fault}
use Rattle.jexl_eval.specs.Gives.{Fails, Gives}
use Rattle.jexl_eval.specs.Meaning.{meaning}
use Rattle.jexl_eval.specs.Seen.{found_as_json}

-- the fault that was had is the answer
pub exit : {X Y : Type 0} (view : X → Y) (meant : Result Y Fault) (r : Result X EvalFault) (f : EvalFault) → IsErrAnd r (λ e. e ≡ f) → Fails f meant → Gives view r meant
exit view meant r f h fails = let p = err_from_is_err_and r h in subst (λ s. Gives view s meant) (sym p.1) (subst (λ e. Fails e meant) (sym p.2) fails)

-- so is want of memory
pub exit_memory : {X Y : Type 0} (view : X → Y) (meant : Result Y Fault) (r : Result X EvalFault) → IsErrAnd r (λ e. e ≡ faults.OutOfMemory) → Gives view r meant
exit_memory view meant r h = exit view meant r faults.OutOfMemory h tt

-- along the tree that a node is: a fault, an answer, a value
module _ (has : List ℕ → Bool) (attributes : Members) (current : Json) (t u : Tree) where
  pub fails_at : (r : Result Found EvalFault) (f : EvalFault) → IsErrAnd r (λ e. e ≡ f) → t ≡ u → Fails f (meaning has attributes current u) → Gives found_as_json r (meaning has attributes current t)
  fails_at r f h e fails = exit found_as_json (meaning has attributes current t) r f h (subst (λ v. Fails f (meaning has attributes current v)) (sym e) fails)

  pub gives_at : (r : Result Found EvalFault) → t ≡ u → Gives found_as_json r (meaning has attributes current u) → Gives found_as_json r (meaning has attributes current t)
  gives_at r e h = subst (λ v. Gives found_as_json r (meaning has attributes current v)) (sym e) h

  pub is_at : (r : Result Json Fault) → t ≡ u → meaning has attributes current u ≡ r → meaning has attributes current t ≡ r
  is_at r e h = ap (meaning has attributes current) e ∙ h
