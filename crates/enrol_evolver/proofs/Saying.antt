-- What an expression says of a client.
use Rattle.std.proofs.Common.{◌≡◌, ℕ, Bool, false, List, Option, Some, Result, Ok, Err, refl, sym, ap, ap₂, ◌∙◌}
use Rattle.json_tree.specs.Json.{Json, null, members_of}
use Rattle.app_context.specs.Attributes.{attributes}
use Rattle.app_context.specs.declared.context.Context.{Context}
use Rattle.enrol_states.specs.declared.state.State.{State}
use Rattle.jexl_parser.specs.Tree.{Tree}
use Rattle.jexl_transforms.specs.Meaning.{is_standard}
use Rattle.jexl_eval.specs.Faults.{Fault}
use Rattle.jexl_eval.specs.Gives as gives
use Rattle.jexl_eval.specs.Meaning.{meaning, truth_of, truth_meant}
use Rattle.jexl_eval.specs.declared.fault.EvalFault.{EvalFault}
use Rattle.jexl_eval.specs.declared.fault.EvalFault.TheVariants as faults
use Rattle.enrol_states.specs.declared.status.ErrorCause.TheVariants.{Faulted}
use Rattle.enrol_evolver.specs.Expressions.{evaluating_wants_memory}
use Rattle.enrol_evolver.specs.Targeting.{said, said_by, said_by_truth, meaning_of}
use Rattle.enrol_evolver.specs.declared.targeting.Targeting.TheVariants.{Fails}

pub says_tree : (context : Context) (s : State) (slug : List ℕ) (now : ℕ) (tree : Tree) (o : Option Tree) (has : List ℕ → Bool) (pairs : List (List ℕ × Json)) → Some tree ≡ o → ((name : List ℕ) → has name ≡ is_standard name) → pairs ≡ attributes context s slug now
    → said (meaning has (members_of pairs) null tree) ≡ said_by context s now slug o
unfolding meaning_of
says_tree context s slug now tree o has pairs there standard same =
    let all : has ≡ is_standard = λ i name. standard name i in
    ap₂ (λ (h : List ℕ → Bool) (ps : List (List ℕ × Json)). said (meaning h (members_of ps) null tree)) all same ∙ ap (said_by context s now slug) there

-- the truth value that is meant says what the value does
pub says_truth : (meant : Result Json Fault) (o : Option Bool) → truth_meant meant ≡ Ok o → said_by_truth o ≡ said meant
says_truth (Ok x) o e = let same : truth_of x ≡ o = cc in ap said_by_truth (sym same)
says_truth (Err fault) o e = absurd cc

-- and so does a fault
pub says_fault : (meant : Result Json Fault) (fault : EvalFault) → evaluating_wants_memory fault ≡ false → gives.Fails fault (truth_meant meant) → Fails Faulted ≡ said meant
says_fault (Err f) fault m e = refl
says_fault (Ok x) faults.Overflow m e = absurd cc
says_fault (Ok x) faults.ZeroDivisor m e = absurd cc
says_fault (Ok x) faults.Kind m e = absurd cc
says_fault (Ok x) faults.UnknownTransform m e = absurd cc
says_fault (Ok x) faults.BadArguments m e = absurd cc
says_fault (Ok x) faults.OutOfMemory m e = absurd cc
