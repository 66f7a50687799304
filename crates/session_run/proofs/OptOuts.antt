-- A slug that is held out is out.
use Rattle.std.proofs.Common.{◌≡◌, inl, inr, ℕ, zero, suc, ◌<◌, ◌≤◌, ◌+◌, ◌-◌, Bool, true, false, List, [], ◌∷◌, length, get_or, refl, sym, ◌∙◌, ap, subst, arith, Some, Result, Ok, Err}
use Rattle.std.specs.Prelude.{All, IsTrue, slice_get, bytes_eq, if◌then◌else◌}
use Rattle.std.specs.Cmp.Lexicographic.{bytes_decides}
use Rattle.std.proofs.lemmas.List.{take_more}
use Rattle.std.proofs.lemmas.List.Elements.{All-head, All-tail}
use Rattle.std.proofs.lemmas.Option.{slice_get-get_or}
use Rattle.enrol_states.specs.Consistent.{IsNotOptedOut}
use Rattle.enrol_states.specs.Order.{is_in}
use Rattle.enrol_states.specs.State.{status_of}
use Rattle.enrol_states.specs.Statuses.{is_enrolled, is_enrolled_now}
use Rattle.enrol_states.specs.declared.state.State.{State}
use Rattle.client_state.specs.declared.client_state.ClientState.{ClientState}
use Rattle.enrol_states.specs.declared.state.Row.{Row}
use Rattle.client_state.specs.Sound.{IsSound}
use Rattle.client_steps.specs.Settings.{Setting}
use Rattle.client_steps.specs.Steps.{step}
use Rattle.client_words.specs.declared.command.Command.{Command}
use Rattle.client_steps.proofs.OptOuts.{opt_outs_hold}
use Rattle.client_words.specs.declared.line.LineFault.{LineFault}
use Rattle.client_words.specs.Commands.{command_of}
use Rattle.session_run.specs.Steps.{RunState, run_after, effect, run_at, after}
use Rattle.session_run.specs.OptOuts.{LineOptsOut, LineBringsBack, IsOutFrom, IsHeldOut, IsOut}
use Rattle.session_run.proofs.Running.{run-more}

-- ---- one line

line_keeps : (at : Setting) (run : RunState) (slug : List ℕ) (read : Result Command LineFault) → IsTrue (is_in run.state.enrolment.opted_out slug)
    → ((command : Command) → read ≡ Ok command → IsTrue (is_in (step at run.state run.session command).state.enrolment.opted_out slug)) → IsTrue (is_in (effect at run read).state.enrolment.opted_out slug)
line_keeps at run slug (Ok command) there keeps = keeps command refl
line_keeps at run slug (Err fault) there keeps = there

kept : (at : Setting) (run : RunState) (slug line : List ℕ) → IsTrue (is_in run.state.enrolment.opted_out slug) → (LineBringsBack at run slug line → ⊥) → IsTrue (is_in (run_after at run line).state.enrolment.opted_out slug)
unfolding run_after
kept at run slug line there none =
    line_keeps at run slug (command_of line) there (λ command is. opt_outs_hold.kept at run.state run.session slug command there (λ brings. none (record { command = command; is_command = is; brings = brings })))

taken : (at : Setting) (run : RunState) (slug line : List ℕ) → LineOptsOut at run slug line → IsTrue (is_in (run_after at run line).state.enrolment.opted_out slug)
unfolding run_after
taken at run slug line out =
    subst (λ (read : Result Command LineFault). IsTrue (is_in (effect at run read).state.enrolment.opted_out slug)) (sym out.command) (opt_outs_hold.taken at run.state run.session slug out.answer)

-- ---- many lines

module _ (at : Setting) (s : ClientState) (lines : List (List ℕ)) (slug : List ℕ) where
  one_more : (i : ℕ) (within : i < length lines) → run_at at s lines (i + 1) ≡ run_after at (run_at at s lines i) (get_or lines i [])
  one_more i within = run-more at s lines i (get_or lines i []) within (take_more lines i [] within)

  out_from : (i : ℕ) → i ≤ length lines → IsOutFrom at s lines i slug → IsTrue (is_in (after at s lines i).enrolment.opted_out slug)
  out_from i within (inl (start, there)) = subst (λ (n : ℕ). IsTrue (is_in (after at s lines n).enrolment.opted_out slug)) (sym start) there
  out_from i within (inr (j, next, (line, is, out))) =
      let inside : j < length lines = omega (arith, within, next) in
      let same : get_or lines j [] ≡ line = the_same (sym (slice_get-get_or lines j [] inside) ∙ is) in
      subst (λ (n : ℕ). IsTrue (is_in (after at s lines n).enrolment.opted_out slug)) (sym next)
      (subst (λ (run : RunState). IsTrue (is_in run.state.enrolment.opted_out slug)) (sym (one_more j inside ∙ ap (λ (l : List ℕ). run_after at (run_at at s lines j) l) same)) (taken at (run_at at s lines j) slug line out))
    where
      the_same : {a b : List ℕ} → Some a ≡ Some b → a ≡ b
      the_same e = cc

  still : (n i : ℕ) → i + n ≤ length lines → IsTrue (is_in (after at s lines i).enrolment.opted_out slug)
      → ((j : ℕ) (line : List ℕ) → i ≤ j → j < i + n → slice_get lines j ≡ Some line → LineBringsBack at (run_at at s lines j) slug line → ⊥) → IsTrue (is_in (after at s lines (i + n)).enrolment.opted_out slug)
  still zero i within there none = subst (λ (m : ℕ). IsTrue (is_in (after at s lines m).enrolment.opted_out slug)) (omega arith) there
  still (suc n) i within there none =
      let inside : i + n < length lines = omega (arith, within) in
      let line = get_or lines (i + n) [] in
      let before = still n i (omega (arith, within)) there (λ j other from less. none j other from (omega (arith, less))) in
      let here = kept at (run_at at s lines (i + n)) slug line before (none (i + n) line (omega arith) (omega arith) (slice_get-get_or lines (i + n) [] inside)) in
      subst (λ (m : ℕ). IsTrue (is_in (after at s lines m).enrolment.opted_out slug)) (omega arith) (subst (λ (run : RunState). IsTrue (is_in run.state.enrolment.opted_out slug)) (sym (one_more (i + n) inside)) here)

  held : (k : ℕ) → k ≤ length lines → IsHeldOut at s lines k slug → IsTrue (is_in (after at s lines k).enrolment.opted_out slug)
  held k within out =
      let most : out.i ≤ k = out.within in
      let whole : out.i + (k - out.i) ≡ k = omega (arith, most) in
      subst (λ (m : ℕ). IsTrue (is_in (after at s lines m).enrolment.opted_out slug)) whole
      (still (k - out.i) out.i (omega (arith, most, within)) (out_from out.i (omega (arith, most, within)) out.out) (λ j line from less. out.none j line from (omega (arith, less, most))))

-- ---- rows

not_here : (s : State) (row : Row) (rows : List Row) (slug : List ℕ) (b : Bool) → bytes_eq row.slug slug ≡ b → IsTrue (is_in s.opted_out slug) → IsNotOptedOut s row → is_enrolled_now (status_of slug rows) ≡ false
    → is_enrolled_now (if b then Some row.status else status_of slug rows) ≡ false
not_here s row rows slug true e there out rest = none (is_enrolled row.status) refl
  where
    same : row.slug ≡ slug
    same = (bytes_decides row.slug slug).0 e

    none : (enrolled : Bool) → is_enrolled row.status ≡ enrolled → enrolled ≡ false
    none true is = absurd (let never = out is in let here = subst (λ (u : List ℕ). is_in s.opted_out u ≡ true) (sym same) there in cc)
    none false is = refl
not_here s row rows slug false e there out rest = rest

not_enrolled : (s : State) (slug : List ℕ) (rows : List Row) → IsTrue (is_in s.opted_out slug) → All (IsNotOptedOut s) rows → is_enrolled_now (status_of slug rows) ≡ false
not_enrolled s slug [] there out = refl
not_enrolled s slug (row ∷ rows) there out =
    not_here s row rows slug (bytes_eq row.slug slug) refl there (All-head (IsNotOptedOut s) row rows out) (not_enrolled s slug rows there (All-tail (IsNotOptedOut s) row rows out))

-- an opted-out slug isn't enrolled in a sound state
pub out_of : (s : ClientState) (slug : List ℕ) → IsTrue (is_in s.enrolment.opted_out slug) → IsSound s → IsOut s slug
out_of s slug there sound = record { opted_out = there; not_enrolled = not_enrolled s.enrolment slug s.enrolment.rows there sound.consistent.enrolment.row_choices }

-- a slug that is held out is out, where the state is sound
pub is_out : (at : Setting) (s : ClientState) (lines : List (List ℕ)) (k : ℕ) (slug : List ℕ) → k ≤ length lines → IsSound (after at s lines k) → IsHeldOut at s lines k slug → IsOut (after at s lines k) slug
is_out at s lines k slug within sound out = out_of (after at s lines k) slug (held at s lines slug k within out) sound
