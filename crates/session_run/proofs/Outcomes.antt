-- What follows from the answers of the calls of a line.
use Rattle.std.proofs.Common.{◌≡◌, ◌≢◌, ◌⊎◌, inl, inr, ℕ, List, refl, sym, ◌∙◌, ap, subst, arith, Result, Ok, Err, OnOk, IsErrAnd}
use Rattle.host_model.specs.declared.host.Host.{Ghosts}
use Rattle.host_model.specs.Hosts.{MeetsAll, NowOf}
use Rattle.host_model.proofs.Meeting.{started}
use Rattle.client_state.specs.declared.client_state.ClientState.{ClientState}
use Rattle.client_words.specs.declared.command.Command.{Command}
use Rattle.client_steps.specs.declared.faults.StepFault.{StepFault}
use Rattle.client_steps.specs.declared.faults.StepFault.TheVariants as step_fault
use Rattle.client_steps.specs.declared.session.Session.{Session}
use Rattle.client_store.specs.OpenStore.{AllKept}
use Rattle.client_steps.specs.Settings.{Setting}
use Rattle.client_steps.specs.Steps.{step}
use Rattle.client_words.specs.declared.line.LineFault.{LineFault}
use Rattle.client_words.specs.declared.line.LineFault.TheVariants.{OutOfMemory}
use Rattle.session_run.specs.declared.faults.RunFault.{RunFault}
use Rattle.session_run.specs.declared.faults.RunFault.TheVariants as run
use Rattle.client_words.specs.Answers.{answer_lines, fault_answer}
use Rattle.client_words.specs.Commands.{command_of}
use Rattle.session_run.specs.Statuses.{of_step}
use Rattle.session_run.specs.Steps.{RunState, left_by, effect, reply, run_after, answer}
use Rattle.session_run.specs.Moments.{DuringLine}
use Rattle.session_run.specs.Ends.{FaultCost, LineEnds}
use Rattle.session_run.specs.Lines.{LineCost}
use Rattle.session_run.proofs.Ending.{err_is}

-- what holds anyway
pub always_ok : {T E P : Type 0} (result : Result T E) → P → OnOk result P
always_ok (Ok value) fact = fact
always_ok (Err fault) fact = tt

pub on_ok : {T E P Q : Type 0} (result : Result T E) → OnOk result P → (P → Q) → OnOk result Q
on_ok (Ok value) fact follows = follows fact
on_ok (Err fault) fact follows = tt

pub both_ok : {T E P Q R : Type 0} (result : Result T E) → OnOk result P → OnOk result Q → (P → Q → R) → OnOk result R
both_ok (Ok value) first second follows = follows first second
both_ok (Err fault) first second follows = tt

module _ {H : Type 0} (h : Ghosts H) (start : H) (s t : ClientState) (text : List ℕ) (kept : AllKept h start s) where
  -- nothing is written or said
  pub unwritten_met : ((l r u : List ℕ) → h.might start (h.moment start) l r u → NowOf h start l r u) → MeetsAll h start start (DuringLine (h.said start) s t text)
  unwritten_met only = started h.moment h.might start (DuringLine (h.said start) s t text) (λ l r u met.
      let now = only l r u met in
      inl (inl (kept l r now.0 now.1), now.2))

  step_ends : (fault : StepFault) → LineEnds {T = Unit {0}} h s t text (h.said start) start (Err (of_step fault))
  step_ends step_fault.ShelfFault = (kept, refl)
  step_ends step_fault.OutOfMemory = (kept, refl)

  -- the step was not prepared
  pub unprepared_ends : (fault : StepFault) (result : Result (Unit {0}) RunFault) → IsErrAnd result (λ f. f ≡ of_step fault) → LineEnds h s t text (h.said start) start result
  unprepared_ends fault result and = subst (LineEnds h s t text (h.said start) start) (sym (err_is result (of_step fault) and)) (step_ends fault)

  -- memory was wanting
  pub unanswered_ends : (result : Result (Unit {0}) RunFault) → IsErrAnd result (λ f. f ≡ run.OutOfMemory) → LineEnds h s t text (h.said start) start result
  unanswered_ends result and = subst (LineEnds h s t text (h.said start) start) (sym (err_is result run.OutOfMemory and)) (kept, refl)

pub run_same : (a b : RunState) → a.state ≡ b.state → a.session ≡ b.session → a ≡ b
run_same a b state session =
    ap (λ (x : ClientState). record { state = x; session = a.session }) state ∙ ap (λ (x : Session). record { state = b.state; session = x }) session

-- a line was read
pub read_ok : (command : Command) (found : Result Command LineFault) → (Ok command ≡ found) ⊎ (Ok command ≡ Err OutOfMemory) → found ≡ Ok command
read_ok command found (inl is) = sym is
read_ok command found (inr is) = absurd (grind (arith, is))

abbrev refused : LineFault → Result Command LineFault
refused fault = Err fault

same_fault : (fault other : LineFault) → refused fault ≡ refused other → fault ≡ other
same_fault fault other same = cc

pub read_err : (fault : LineFault) (found : Result Command LineFault) → (refused fault ≡ found) ⊎ (refused fault ≡ refused OutOfMemory) → fault ≢ OutOfMemory → found ≡ refused fault
read_err fault found (inl is) other = sym is
read_err fault found (inr is) other = absurd (other (same_fault fault OutOfMemory is))

module _ (at : Setting) (now : RunState) (line : List ℕ) where
  pub after-command : (command : Command) → command_of line ≡ Ok command → left_by (step at now.state now.session command) ≡ run_after at now line
  unfolding run_after
  after-command command is = ap (effect at now) (sym is)

  pub answer-command : (command : Command) → command_of line ≡ Ok command → answer_lines (step at now.state now.session command).answer ≡ answer at now line
  unfolding answer
  answer-command command is = ap (reply at now) (sym is)

  pub after-fault : (fault : LineFault) → command_of line ≡ Err fault → now ≡ run_after at now line
  unfolding run_after
  after-fault fault is = ap (effect at now) (sym is)

  pub answer-fault : (fault : LineFault) → command_of line ≡ Err fault → fault_answer fault ≡ answer at now line
  unfolding answer
  answer-fault fault is = ap (reply at now) (sym is)

-- a line that failed has written so much
pub err_cost : (before after now : ℕ) (result : Result (Unit {0}) RunFault) (fault : RunFault) → IsErrAnd result (λ f. f ≡ fault) → FaultCost before after now fault → LineCost before after now result
err_cost before after now result fault and cost = subst (λ (r : Result (Unit {0}) RunFault). LineCost before after now r) (sym (err_is result fault and)) cost

-- nothing where no step was prepared
pub step_free : (fault : StepFault) (before after : ℕ) → FaultCost before after before (of_step fault)
step_free step_fault.ShelfFault before after = refl
step_free step_fault.OutOfMemory before after = refl
