-- A line without a command is answered.
use Rattle.std.proofs.Common.{List, ℕ, ◌++◌, ◌∙◌, ap, subst, refl, arith}
use Rattle.host_model.specs.Hosts.{MeetsAll}
use Rattle.client_core.specs.Clients.{state_of, end_of}
use Rattle.client_store.proofs.Holding.{kept_said}
use Rattle.client_core.proofs.Holding.{all_kept, open_said, gate_said}
use Rattle.client_store.proofs.Placing.{bytes_same}
use Rattle.session_run.specs.declared.faults.RunFault.TheVariants.{SayFault, OutOfMemory}
use Rattle.session_run.specs.Lines.{LineRan}
use Rattle.session_run.specs.Moments.{DuringLine}
use Rattle.session_run.proofs.Answering.{said_met}
use Rattle.session_run.proofs.Causing.{unsaid_causes}
use Rattle.session_run.proofs.Ending.{said_ends}
use Rattle.session_run.proofs.Undone.{err_ok, undone_ran, undone_open}
use Rattle.session_run.proofs.Outcomes.{err_cost, unanswered_ends}
use Rattle.session_run.proofs.Writing.{below_said}
use Rattle.session_run.proofs.line.refuse.Goals as goal

-- ---- no answer is built

pub returns-in_err-text-clause-ran : goal.returns-in_err-text-clause-ran
returns-in_err-text-clause-ran g c tells =
    let h = g.H.Host in
    let client = c.args.client.now in
    let start = c.args.host.now in
    undone_ran h client start (λ l r u met. g.met.H.Host.only_now start l r u tells met) c.from_residual.result OutOfMemory c.from_residual.ensures.1 (λ after. refl) (c.requires.holds tells) _ _
    (λ kept. unanswered_ends h start (state_of client) _ _ kept c.from_residual.result c.from_residual.ensures.1)

pub returns-in_err-text-clause-stays_open : goal.returns-in_err-text-clause-stays_open
returns-in_err-text-clause-stays_open g c tells =
    let start = c.args.host.now in
    undone_open g.H.Host c.args.client.now start (λ l r u met. g.met.H.Host.only_now start l r u tells met) c.from_residual.result OutOfMemory c.from_residual.ensures.1 c.args.client.now

-- ---- the output has failed

pub returns-in_err-say_answer-clause-ran : goal.returns-in_err-say_answer-clause-ran
returns-in_err-say_answer-clause-ran g c tells =
    let h = g.H.Host in
    let client = c.args.client.now in
    let s = state_of client in
    let start = c.args.host.now in
    let new = c.say_answer.new.host in
    let text = c.as_str.result.now in
    let result = c.from_residual-in_err-say_answer.result in
    let and = c.from_residual-in_err-say_answer.ensures.1 in
    let same = c.say_answer.ensures.cost tells in
    subst (λ (words : List ℕ). LineRan h client s words start new result) (c.as_str.ensures.text ∙ c.in_ok-text.ensures) (record {
      moments = λ gate. said_met h start new s text (all_kept h client start (c.requires.holds tells) gate) (c.say_answer.ensures.any_moment tells);
      ends = λ gate. said_ends h start new s s text result and c.in_err-say_answer.ensures.some (kept_said h start new (c.say_answer.ensures.still tells) s (all_kept h client start (c.requires.holds tells) gate)) (c.in_err-say_answer.ensures.said_part tells);
      said = err_ok _ result SayFault and;
      cost = err_cost _ _ _ result SayFault and (omega (arith, bytes_same (end_of client) s, same));
    })

pub returns-in_err-say_answer-clause-stays_open : goal.returns-in_err-say_answer-clause-stays_open
returns-in_err-say_answer-clause-stays_open g c tells = record {
  holds = err_ok _ c.from_residual-in_err-say_answer.result SayFault c.from_residual-in_err-say_answer.ensures.1;
  gate = err_ok _ c.from_residual-in_err-say_answer.result SayFault c.from_residual-in_err-say_answer.ensures.1;
  gate_made = err_ok _ c.from_residual-in_err-say_answer.result SayFault c.from_residual-in_err-say_answer.ensures.1;
  below = below_said g.H.Host c.args.host.now c.say_answer.new.host c.as_str.result.now (c.say_answer.ensures.any_moment tells);
}

pub returns-in_err-say_answer-clause-host_causes : goal.returns-in_err-say_answer-clause-host_causes
returns-in_err-say_answer-clause-host_causes g c =
    let said = c.in_err-say_answer.ensures in
    unsaid_causes g.H.Host c.args.host.now c.say_answer.new.host said.disk_faults said.cause.later said.cause.failed c.from_residual-in_err-say_answer.result c.from_residual-in_err-say_answer.ensures.1

-- ---- the line is answered

pub returns-clause-ran : goal.returns-clause-ran
returns-clause-ran g c tells =
    let h = g.H.Host in
    let client = c.args.client.now in
    let s = state_of client in
    let start = c.args.host.now in
    let new = c.say_answer.new.host in
    let said = c.in_ok-say_answer.ensures.said tells ∙ ap (λ (words : List ℕ). h.said start ++ words) (c.as_str.ensures.text ∙ c.in_ok-text.ensures) in
    let same = c.say_answer.ensures.cost tells in
    record {
      moments = λ gate. subst (λ (words : List ℕ). MeetsAll h start new (DuringLine (h.said start) s s words)) (c.as_str.ensures.text ∙ c.in_ok-text.ensures)
          (said_met h start new s c.as_str.result.now (all_kept h client start (c.requires.holds tells) gate) (c.say_answer.ensures.any_moment tells));
      ends = λ gate. (kept_said h start new (c.say_answer.ensures.still tells) s (all_kept h client start (c.requires.holds tells) gate), said);
      said = said;
      cost = omega (arith, bytes_same (end_of client) s, same);
    }

pub returns-clause-stays_open : goal.returns-clause-stays_open
returns-clause-stays_open g c tells =
    let h = g.H.Host in
    let client = c.args.client.now in
    let start = c.args.host.now in
    let new = c.say_answer.new.host in
    let still = c.say_answer.ensures.still tells in
    record {
      holds = open_said h start new still client (c.requires.holds tells);
      gate = λ gate. gate_said h start new still client gate;
      gate_made = λ changed. absurd (changed refl);
      below = below_said h start new c.as_str.result.now (c.say_answer.ensures.any_moment tells);
    }
