-- A line more, seen from the start of the run.
use Rattle.std.proofs.Common.{◌≡◌, inl, inr, ℕ, ◌<◌, ◌≤◌, ◌+◌, ◌-◌, List, [], ◌∷◌, ◌++◌, length, get_or, take, drop, refl, sym, ◌∙◌, ap, subst, arith, append_assoc}
use Rattle.std.proofs.lemmas.List.{append-nil, take_more, take-append-drop}
use Rattle.host_model.specs.declared.host.Host.{Ghosts}
use Rattle.host_model.specs.Hosts.{MeetsAll}
use Rattle.host_model.proofs.Meeting.{then_met}
use Rattle.client_state.specs.declared.client_state.ClientState.{ClientState}
use Rattle.client_steps.specs.Settings.{Setting}
use Rattle.client_store.specs.Store.{KeptFor}
use Rattle.session_run.specs.Steps.{RunState, begun, run_after, answer, all_after, all_answers, run_at, after, out}
use Rattle.session_run.specs.Moments.{DuringLine, IsPrefixOf, AfterPrefix}
use Rattle.session_run.proofs.Starting.{begin}
use Rattle.session_run.proofs.Stepping.{all_after-push, all_answers-push}

-- the answers to all lines but the last of the first k
answered_before : (at : Setting) (s : ClientState) (lines : List (List ℕ)) (k : ℕ) → 0 < k → k ≤ length lines → IsPrefixOf (out at s lines (k - 1)) (out at s lines k)
answered_before at s lines k some within =
    let again : k - 1 + 1 ≡ k = omega (arith, some) in
    let line = get_or lines (k - 1) [] in
    let more : take (k - 1 + 1) lines ≡ take (k - 1) lines ++ line ∷ [] = take_more lines (k - 1) [] (omega (arith, some, within)) in (
      answer at (run_at at s lines (k - 1)) line,
      sym (all_answers-push at (begun s) (take (k - 1) lines) line) ∙ sym (ap (λ (some_lines : List (List ℕ)). all_answers at (begun s) some_lines) more) ∙ ap (λ (n : ℕ). out at s lines n) again,
    )

-- before the first line
pub some_at_start : (at : Setting) (s : ClientState) (place : ℕ) (lines : List (List ℕ)) (said : List ℕ) (written : ℕ) (l r u : List ℕ) → KeptFor l r s → u ≡ said → AfterPrefix (begin at s place lines said written) l r u
some_at_start at s place lines said written l r u kept same = record {
  new = [];
  text = same ∙ sym (append-nil said);
  k = 0;
  within = omega arith;
  kept = kept;
  printed = ([], refl);
  answered = λ none. absurd (omega (arith, none));
}

-- what is met in a run doesn't depend on where its records begin, nor on how many bytes were written
pub elsewhere : (at : Setting) (s : ClientState) (lines : List (List ℕ)) (said : List ℕ) (place written other count : ℕ) (l r u : List ℕ) → AfterPrefix (begin at s place lines said written) l r u → AfterPrefix (begin at s other lines said count) l r u
elsewhere at s lines said place written other count l r u met =
    record { new = met.new; text = met.text; k = met.k; within = met.within; kept = met.kept; printed = met.printed; answered = met.answered }

module _ (at : Setting) (s : ClientState) (lines : List (List ℕ)) (i : ℕ) (line : List ℕ) (within : i < length lines) (more : take (i + 1) lines ≡ take i lines ++ line ∷ []) where
  pub run-more : run_at at s lines (i + 1) ≡ run_after at (run_at at s lines i) line
  run-more = ap (λ (some : List (List ℕ)). all_after at (begun s) some) more ∙ all_after-push at (begun s) (take i lines) line

  pub after-more : after at s lines (i + 1) ≡ (run_after at (run_at at s lines i) line).state
  after-more = ap (λ (run : RunState). run.state) run-more

  pub out-more : out at s lines (i + 1) ≡ out at s lines i ++ answer at (run_at at s lines i) line
  out-more = ap (λ (some : List (List ℕ)). all_answers at (begun s) some) more ∙ all_answers-push at (begun s) (take i lines) line

  one_less : i + 1 - 1 ≡ i
  one_less = omega arith

  -- the text said during the line
  pub part : (n : ℕ) → (out at s lines i ++ take n (answer at (run_at at s lines i) line)) ++ drop n (answer at (run_at at s lines i) line) ≡ out at s lines (i + 1)
  part n =
      let text = answer at (run_at at s lines i) line in
      append_assoc (out at s lines i) (take n text) (drop n text) ∙ ap (λ (u : List ℕ). out at s lines i ++ u) (take-append-drop n text) ∙ sym out-more

  pub some_during : (place written : ℕ) (said l r u : List ℕ) → DuringLine (said ++ out at s lines i) (after at s lines i) (run_after at (run_at at s lines i) line).state (answer at (run_at at s lines i) line) l r u → AfterPrefix (begin at s place lines said written) l r u
  some_during place written said l r u (inl (inl kept, text)) = record {
    new = out at s lines i;
    text = text;
    k = i;
    within = omega (arith, within);
    kept = kept;
    printed = ([], append-nil (out at s lines i));
    answered = λ some. answered_before at s lines i some (omega (arith, within));
  }
  some_during place written said l r u (inl (inr kept, text)) = record {
    new = out at s lines i;
    text = text;
    k = i + 1;
    within = omega (arith, within);
    kept = subst (KeptFor l r) (sym after-more) kept;
    printed = (answer at (run_at at s lines i) line, sym out-more);
    answered = λ some. subst (λ (n : ℕ). IsPrefixOf (out at s lines n) (out at s lines i)) (sym one_less) ([], append-nil (out at s lines i));
  }
  some_during place written said l r u (inr (kept, (n, text))) =
      let said_part = take n (answer at (run_at at s lines i) line) in
      record {
        new = out at s lines i ++ said_part;
        text = text ∙ append_assoc said (out at s lines i) said_part;
        k = i + 1;
        within = omega (arith, within);
        kept = subst (KeptFor l r) (sym after-more) kept;
        printed = (drop n (answer at (run_at at s lines i) line), part n);
        answered = λ some. subst (λ (m : ℕ). IsPrefixOf (out at s lines m) (out at s lines i ++ said_part)) (sym one_less) (said_part, refl);
      }

  module _ {H : Type 0} (h : Ghosts H) (start mid new : H) (now : RunState) (is : now ≡ run_at at s lines i) (said : h.said mid ≡ h.said start ++ out at s lines i) where
    -- the line's moments are some of the run's
    pub lines_met : (place written : ℕ) → MeetsAll h start mid (AfterPrefix (begin at s place lines (h.said start) written)) → MeetsAll h mid new (DuringLine (h.said mid) now.state (run_after at now line).state (answer at now line)) → MeetsAll h start new (AfterPrefix (begin at s place lines (h.said start) written))
    lines_met place written first second =
        let there = run_at at s lines i in
        let during = subst (λ (text : List ℕ). MeetsAll h mid new (DuringLine text there.state (run_after at there line).state (answer at there line))) said
        (subst (λ (run : RunState). MeetsAll h mid new (DuringLine (h.said mid) run.state (run_after at run line).state (answer at run line))) is second) in
        then_met h.moment h.might start mid new (AfterPrefix (begin at s place lines (h.said start) written)) (DuringLine (h.said start ++ out at s lines i) there.state (run_after at there line).state (answer at there line)) (AfterPrefix (begin at s place lines (h.said start) written))
        first during (λ l r u met. met) (some_during place written (h.said start))
