-- A line that is not done, and one on a client that stores the same.
use Rattle.std.proofs.Common.{◌≡◌, ◌+◌, ℕ, List, ap, ◌∙◌, subst, Result, Ok, Err, OnOk, IsErrAnd}
use Rattle.host_model.specs.declared.host.Host.{Ghosts}
use Rattle.host_model.specs.Hosts.{MeetsAll, NowOf}
use Rattle.client_state.specs.declared.client_state.ClientState.{ClientState}
use Rattle.client_core.specs.declared.client.Client.{Client}
use Rattle.client_core.specs.Clients.{state_of, end_of, IsOpenOn, IsSameClient}
use Rattle.client_store.specs.OpenStore.{AllKept}
use Rattle.client_store.specs.Places.{bytes_for}
use Rattle.client_core.proofs.Holding.{all_kept, gate_again, end_again}
use Rattle.session_run.specs.declared.faults.RunFault.{RunFault}
use Rattle.session_run.specs.Ends.{FaultCost, LineEnds}
use Rattle.session_run.specs.Lines.{LineCost, LineRan, StaysOpen}
use Rattle.session_run.specs.Moments.{DuringLine}
use Rattle.session_run.proofs.Outcomes.{err_cost, unwritten_met}
use Rattle.session_run.proofs.Writing.{below_unwritten}

-- nothing is promised of a call that failed
pub err_ok : {T E : Type 0} (P : Type 0) (result : Result T E) (fault : E) → IsErrAnd result (λ f. f ≡ fault) → OnOk result P
err_ok P (Ok value) fault and = absurd and
err_ok P (Err f) fault and = tt

-- nothing was written or said
module _ {H : Type 0} (h : Ghosts H) (client : Client) (old : H) (only : (l r u : List ℕ) → h.might old (h.moment old) l r u → NowOf h old l r u) (result : Result (Unit {0}) RunFault) (fault : RunFault) (and : IsErrAnd result (λ f. f ≡ fault)) where
  pub undone_ran : ((after : ℕ) → FaultCost (h.written old) after (h.written old) fault) → IsOpenOn h client old → (t : ClientState) (text : List ℕ) → (AllKept h old (state_of client) → LineEnds h (state_of client) t text (h.said old) old result) → LineRan h client t text old old result
  undone_ran free holds t text ends = record {
    moments = λ gate. unwritten_met h old (state_of client) t text (all_kept h client old holds gate) only;
    ends = λ gate. ends (all_kept h client old holds gate);
    said = err_ok _ result fault and;
    cost = err_cost _ _ _ result fault and (free _);
  }

  pub undone_open : (new_client : Client) → StaysOpen h client new_client old old result
  undone_open new_client = record {
    holds = err_ok _ result fault and;
    gate = err_ok _ result fault and;
    gate_made = err_ok _ result fault and;
    below = below_unwritten h old only;
  }

-- what is known of a line on a client that stores the same
pub ran_again : {H : Type 0} (h : Ghosts H) (client fresh : Client) → IsSameClient client fresh → (t : ClientState) (text : List ℕ) (old new : H) (result : Result (Unit {0}) RunFault) → LineRan h fresh t text old new result → LineRan h client t text old new result
ran_again h client fresh same t text old new result ran = record {
  moments = λ gate. subst (λ (s : ClientState). MeetsAll h old new (DuringLine (h.said old) s t text)) same.stored.state (ran.moments (gate_again client fresh same h old gate));
  ends = λ gate. subst (λ (s : ClientState). LineEnds h s t text (h.said old) new result) same.stored.state (ran.ends (gate_again client fresh same h old gate));
  said = ran.said;
  cost = subst (λ (n : ℕ). LineCost (h.written old) (h.written old + n) (h.written new) result)
      (ap (λ (p : ℕ). bytes_for p (state_of fresh) t) (end_again client fresh same) ∙ ap (λ (s : ClientState). bytes_for (end_of client) s t) same.stored.state) ran.cost;
}
