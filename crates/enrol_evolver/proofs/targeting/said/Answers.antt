use Rattle.std.proofs.Common.{Bool, Option, Result, sym, ◌∙◌, subst}
use Rattle.jexl_eval.specs.Gives.{Gives}
use Rattle.jexl_eval.specs.Meaning.{truth_meant}
use Rattle.jexl_eval.specs.declared.fault.EvalFault.{EvalFault}
use Rattle.enrol_evolver.proofs.Saying.{says_truth, says_fault}
use Rattle.enrol_evolver.proofs.targeting.said.Goals as goal

pub returns-in-Ok : goal.returns-in-Ok
returns-in-Ok c = λ meant given.
    let found = subst (λ (r : Result (Option Bool) EvalFault). Gives (λ t. t) r (truth_meant meant)) c.in-Ok.is given in
    c.said_by_truth.ensures ∙ says_truth meant c.in-Ok.truth found

pub returns-else-evaluating_wants_memory : goal.returns-else-evaluating_wants_memory
returns-else-evaluating_wants_memory c = λ meant given.
    let found = subst (λ (r : Result (Option Bool) EvalFault). Gives (λ t. t) r (truth_meant meant)) c.in-Err.is given in
    says_fault meant c.in-Err.fault (sym c.evaluating_wants_memory.ensures ∙ c.if-evaluating_wants_memory.false) found
