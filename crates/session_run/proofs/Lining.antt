-- A line of a run, over the setting of its start.
use Rattle.std.proofs.Common.{◌≡◌, ◌≢◌, ◌+◌, ℕ, ◌<◌, List, [], ◌∷◌, ◌++◌, append_assoc, length, take, refl, sym, ap, ◌∙◌, subst, arith, Err}
use Rattle.std.specs.Prelude.{slice_get, Some}
use Rattle.host_model.specs.declared.host.Host.{Ghosts}
use Rattle.host_model.specs.Hosts.{MeetsAll}
use Rattle.client_state.specs.declared.client_state.ClientState.{ClientState}
use Rattle.client_store.specs.Places.{place_after, bytes_for}
use Rattle.client_steps.specs.Settings.{Setting}
use Rattle.session_run.specs.declared.faults.RunFault.{RunFault}
use Rattle.session_run.specs.declared.faults.RunFault.TheVariants.{ShelfFault}
use Rattle.session_run.specs.Steps.{RunState, begun, run_after, answer, run_at, after, out}
use Rattle.session_run.specs.Moments.{DuringLine, AfterPrefix}
use Rattle.session_run.specs.Places.{all_places, all_bytes}
use Rattle.session_run.specs.Ends.{FaultCost, LineEnds, LinesEnd}
use Rattle.session_run.specs.Files.{NamesFile}
use Rattle.session_run.proofs.Ending.{line_ends}
use Rattle.session_run.proofs.Placing.{all_places-push, all_bytes-push}
use Rattle.session_run.proofs.Running.{out-more, run-more, lines_met}
use Rattle.session_run.proofs.Starting.{begin}

-- the setting at the line is that of the start
module _ (at here : Setting) (same : here ≡ at) (s : ClientState) (lines : List (List ℕ)) (i : ℕ) (line : List ℕ) (within : i < length lines) (more : take (i + 1) lines ≡ take i lines ++ line ∷ []) (now : RunState) (is : now ≡ run_at at s lines i) where
  pub state_more : (later : RunState) → later ≡ run_after here now line → later ≡ run_at at s lines (i + 1)
  state_more later left =
      left ∙ ap (λ (x : Setting). run_after x now line) same ∙ ap (λ (x : RunState). run_after at x line) is ∙ sym (run-more at s lines i line within more)

  pub said_more : (said start later : List ℕ) → said ≡ start ++ out at s lines i → later ≡ said ++ answer here now line → later ≡ start ++ out at s lines (i + 1)
  said_more said start later before step =
      step ∙ ap (λ (x : Setting). said ++ answer x now line) same ∙ ap (λ (u : List ℕ). u ++ answer at now line) before ∙ ap (λ (x : RunState). (start ++ out at s lines i) ++ answer at x line) is
      ∙ append_assoc start (out at s lines i) (answer at (run_at at s lines i) line) ∙ ap (λ (u : List ℕ). start ++ u) (sym (out-more at s lines i line within more))

  pub place_more : (place before later : ℕ) (next : RunState) → next ≡ run_after here now line → before ≡ all_places at place (begun s) (take i lines) → later ≡ place_after before now.state next.state
      → later ≡ all_places at place (begun s) (take (i + 1) lines)
  place_more place before later next left placed step =
      step ∙ ap (λ (x : RunState). place_after before now.state x.state) left ∙ ap (λ (x : Setting). place_after before now.state (run_after x now line).state) same
      ∙ ap (λ (x : RunState). place_after before x.state (run_after at x line).state) is ∙ ap (λ (p : ℕ). place_after p (run_at at s lines i).state (run_after at (run_at at s lines i) line).state) placed
      ∙ sym (ap (λ (some : List (List ℕ)). all_places at place (begun s) some) more ∙ all_places-push at place (begun s) (take i lines) line)

  -- a line that changes the state
  pub changes_here : (next : RunState) → next ≡ run_after here now line → after at s lines i ≢ after at s lines (i + 1) → now.state ≢ next.state
  changes_here next left changed same_state =
      changed (sym (ap (λ (x : RunState). x.state) is) ∙ same_state ∙ ap (λ (x : RunState). x.state) (state_more next left))

  -- the bytes of a line more
  pub cost_more : (place before start written later : ℕ) → before ≡ all_places at place (begun s) (take i lines) → written ≡ start + all_bytes at place (begun s) (take i lines)
      → later ≡ written + bytes_for before now.state (run_after here now line).state → later ≡ start + all_bytes at place (begun s) (take (i + 1) lines)
  cost_more place before start written later placed so_far step =
      let step_is : bytes_for before now.state (run_after here now line).state ≡ bytes_for (all_places at place (begun s) (take i lines)) (run_at at s lines i).state (run_after at (run_at at s lines i) line).state =
      ap (λ (x : Setting). bytes_for before now.state (run_after x now line).state) same ∙ ap (λ (x : RunState). bytes_for before x.state (run_after at x line).state) is
      ∙ ap (λ (p : ℕ). bytes_for p (run_at at s lines i).state (run_after at (run_at at s lines i) line).state) placed in
      let more_is : all_bytes at place (begun s) (take (i + 1) lines) ≡ all_bytes at place (begun s) (take i lines) + bytes_for (all_places at place (begun s) (take i lines)) (run_at at s lines i).state (run_after at (run_at at s lines i) line).state =
      ap (λ (some : List (List ℕ)). all_bytes at place (begun s) some) more ∙ all_bytes-push at place (begun s) (take i lines) line in
      omega (arith, step, so_far, step_is, more_is)

  -- and those of one that ends them
  pub fault_more : (place before start written later : ℕ) (fault : RunFault) → before ≡ all_places at place (begun s) (take i lines) → written ≡ start + all_bytes at place (begun s) (take i lines)
      → FaultCost written (written + bytes_for before now.state (run_after here now line).state) later fault → FaultCost (start + all_bytes at place (begun s) (take i lines)) (start + all_bytes at place (begun s) (take (i + 1) lines)) later fault
  fault_more place before start written later fault placed so_far step =
      let whole = cost_more place before start written (written + bytes_for before now.state (run_after here now line).state) placed so_far refl in
      subst (λ (n : ℕ). FaultCost n (start + all_bytes at place (begun s) (take (i + 1) lines)) later fault) so_far (subst (λ (n : ℕ). FaultCost written n later fault) whole step)

  module _ {H : Type 0} (h : Ghosts H) (start mid new : H) (said : h.said mid ≡ h.said start ++ out at s lines i) where
    pub met_more : (place written : ℕ) → MeetsAll h start mid (AfterPrefix (begin at s place lines (h.said start) written)) → MeetsAll h mid new (DuringLine (h.said mid) now.state (run_after here now line).state (answer here now line)) → MeetsAll h start new (AfterPrefix (begin at s place lines (h.said start) written))
    met_more place written first second =
        lines_met at s lines i line within more h start mid new now is said place written first (subst (λ (x : Setting). MeetsAll h mid new (DuringLine (h.said mid) now.state (run_after x now line).state (answer x now line))) same second)

    pub ends_more : (asked : List (List ℕ) → Type 0) (place written : ℕ) (fault : RunFault) → asked (take (i + 1) lines)
        → FaultCost (written + all_bytes at place (begun s) (take i lines)) (written + all_bytes at place (begun s) (take (i + 1) lines)) (h.written new) fault → slice_get lines i ≡ Some line → (fault ≡ ShelfFault → NamesFile line)
        → LineEnds {T = Unit {0}} h now.state (run_after here now line).state (answer here now line) (h.said mid) new (Err fault) → LinesEnd {T = Unit {0}} h asked (begin at s place lines (h.said start) written) new (Err fault)
    ends_more asked place written fault none_after cost there named ends =
        line_ends h at s lines i line within more start mid new now is said asked place written fault none_after cost there named
        (subst (λ (x : Setting). LineEnds {T = Unit {0}} h now.state (run_after x now line).state (answer x now line) (h.said mid) new (Err fault)) same ends)
