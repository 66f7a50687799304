-- What stands when a line, the lines of a run or a run has ended.
use Rattle.std.proofs.Common.{◌≡◌, ◌≢◌, inl, inr, ℕ, ◌<◌, ◌+◌, List, [], ◌∷◌, ◌++◌, length, take, drop, refl, sym, ◌∙◌, ap, subst, Some, Result, Ok, Err, IsErrAnd}
use Rattle.std.proofs.lemmas.List.{take-append-drop}
use Rattle.std.specs.Prelude.{slice_get}
use Rattle.host_model.specs.declared.host.Host.{Ghosts}
use Rattle.client_state.specs.declared.client_state.ClientState.{ClientState}
use Rattle.client_store.specs.OpenStore.{AllKept, AllKeptEither}
use Rattle.client_steps.specs.Settings.{Setting}
use Rattle.session_run.specs.declared.faults.RunFault.{RunFault}
use Rattle.session_run.specs.declared.faults.RunFault.TheVariants as run
use Rattle.session_run.specs.declared.script.ScriptFault.{ScriptFault}
use Rattle.session_run.specs.declared.script.ScriptFault.TheVariants as script
use Rattle.session_run.specs.declared.status.RunStatus.{RunStatus}
use Rattle.session_run.specs.declared.status.RunStatus.TheVariants.{Done, Usage, ScriptTooLong, NoStore, AlreadyStore, BadStore}
use Rattle.session_run.specs.declared.status.RunStatus.TheVariants.{SourceFault, ShelfFault, DiskFault, SayFault, OutOfMemory}
use Rattle.session_run.specs.Statuses.{of_run, of_script}
use Rattle.session_run.specs.Places.{all_bytes}
use Rattle.session_run.specs.Steps.{RunState, begun, run_after, answer, run_at, after, out}
use Rattle.session_run.specs.Ends.{FaultCost, LineEnds, EndsBefore, LinesEnd, RunEnds, StaysAmong}
use Rattle.session_run.specs.Files.{NamesFile}
use Rattle.session_run.specs.Moments.{EndsEarly}
use Rattle.session_run.specs.Starts.{Start}
use Rattle.session_run.proofs.Running.{after-more, part}
use Rattle.session_run.proofs.Starting.{begin}

-- an error that is known
pub err_is : {T E : Type 0} (result : Result T E) (fault : E) → IsErrAnd result (λ f. f ≡ fault) → result ≡ Err fault
err_is (Ok value) fault and = absurd and
err_is (Err f) fault and = ap Err and

module _ {H : Type 0} (h : Ghosts H) (start new : H) (s t : ClientState) (text : List ℕ) where
  -- the write has failed
  pub written_ends : (result : Result (Unit {0}) RunFault) → IsErrAnd result (λ f. f ≡ run.DiskFault) → s ≢ t → AllKeptEither h new s t → h.said new ≡ h.said start → LineEnds h s t text (h.said start) new result
  written_ends result and changed either said = subst (λ (r : Result (Unit {0}) RunFault). LineEnds h s t text (h.said start) new r) (sym (err_is result run.DiskFault and)) (changed, either, said)

  -- the output has failed
  pub said_ends : (result : Result (Unit {0}) RunFault) → IsErrAnd result (λ f. f ≡ run.SayFault) → text ≢ [] → AllKept h new t → (n : ℕ) × (h.said new ≡ h.said start ++ take n text) → LineEnds h s t text (h.said start) new result
  said_ends result and some kept part_said = subst (λ (r : Result (Unit {0}) RunFault). LineEnds h s t text (h.said start) new r) (sym (err_is result run.SayFault and)) (some, kept, part_said)

module _ {H : Type 0} (h : Ghosts H) (at : Setting) (s : ClientState) (lines : List (List ℕ)) (i : ℕ) (line : List ℕ) (within : i < length lines) (more : take (i + 1) lines ≡ take i lines ++ line ∷ [])
    (start mid new : H) (now : RunState) (is : now ≡ run_at at s lines i) (said : h.said mid ≡ h.said start ++ out at s lines i) where
  now_is : now.state ≡ after at s lines i
  now_is = ap (λ (run : RunState). run.state) is

  next_is : (run_after at now line).state ≡ after at s lines (i + 1)
  next_is = ap (λ (run : RunState). (run_after at run line).state) is ∙ sym (after-more at s lines i line within more)

  abbrev before : (asked : List (List ℕ) → Type 0) (place written : ℕ) → asked (take (i + 1) lines) → h.written new ≡ written + all_bytes at place (begun s) (take i lines) → AllKept h new now.state → h.said new ≡ h.said mid → EndsBefore h asked (begin at s place lines (h.said start) written) new
  before asked place written asks cost kept text = record { k = i; within = within; kept = subst (AllKept h new) now_is kept; text = text ∙ said; cost = cost; asks = asks }

  -- a line that isn't done and answered ends the run
  pub line_ends : (asked : List (List ℕ) → Type 0) (place written : ℕ) (fault : RunFault) → asked (take (i + 1) lines)
      → FaultCost (written + all_bytes at place (begun s) (take i lines)) (written + all_bytes at place (begun s) (take (i + 1) lines)) (h.written new) fault → slice_get lines i ≡ Some line → (fault ≡ run.ShelfFault → NamesFile line)
      → LineEnds {T = Unit {0}} h now.state (run_after at now line).state (answer at now line) (h.said mid) new (Err fault) → LinesEnd {T = Unit {0}} h asked (begin at s place lines (h.said start) written) new (Err fault)
  line_ends asked place written run.ShelfFault asks cost there named ends = record { before = before asked place written asks cost ends.0 ends.1; line = line; is_next = there; names = named refl }
  line_ends asked place written run.OutOfMemory asks cost there named ends = before asked place written asks cost ends.0 ends.1
  line_ends asked place written run.DiskFault asks cost there named (changed, either, text) = record {
    k = i;
    within = within;
    changes = λ same. changed (now_is ∙ same ∙ sym next_is);
    kept = subst (λ (x : ClientState). AllKeptEither h new x (after at s lines (i + 1))) now_is (subst (λ (x : ClientState). AllKeptEither h new now.state x) next_is either);
    text = text ∙ said;
    least = cost.0;
    most = cost.1;
    asks = asks;
  }
  line_ends asked place written run.SayFault asks cost there named (some, kept, (n, text)) = record {
    k = i;
    within = within;
    kept = subst (AllKept h new) next_is kept;
    part = take n (answer at (run_at at s lines i) line);
    rest = drop n (answer at (run_at at s lines i) line);
    both = part at s lines i line within more n;
    some = λ none. some (ap (λ (x : RunState). answer at x line) is ∙ sym (take-append-drop n (answer at (run_at at s lines i) line)) ∙ none);
    text = text ∙ ap (λ (u : List ℕ). u ++ take n (answer at now line)) said ∙ ap (λ (x : RunState). h.said start ++ out at s lines i ++ take n (answer at x line)) is;
    cost = cost;
    asks = asks;
  }

-- lines that end a run
pub run_ends : {H : Type 0} (h : Ghosts H) (asked : List (List ℕ) → Type 0) (states : List ClientState) (start : Start) (old new : H) (fault : RunFault) → LinesEnd {T = Unit {0}} h asked start new (Err fault) → RunEnds h asked states start old new (of_run fault)
run_ends h asked states start old new run.ShelfFault ends = ends
run_ends h asked states start old new run.OutOfMemory ends = inl ends
run_ends h asked states start old new run.DiskFault ends = inl ends
run_ends h asked states start old new run.SayFault ends = ends

-- a run that ended before both sides were synced
pub early_ends : {H : Type 0} (h : Ghosts H) (asked : List (List ℕ) → Type 0) (states : List ClientState) (start : Start) (old new : H) (status : RunStatus) → StaysAmong h asked states start old new status → RunEnds h asked states start old new status
early_ends h asked states start old new ScriptTooLong stays = stays
early_ends h asked states start old new SourceFault stays = stays
early_ends h asked states start old new DiskFault stays = inr (inr stays)
early_ends h asked states start old new OutOfMemory stays = inr (inr stays)
early_ends h asked states start old new Done stays = absurd stays.early
early_ends h asked states start old new Usage stays = absurd stays.early
early_ends h asked states start old new NoStore stays = absurd stays.early
early_ends h asked states start old new AlreadyStore stays = absurd stays.early
early_ends h asked states start old new BadStore stays = absurd stays.early
early_ends h asked states start old new ShelfFault stays = absurd stays.early
early_ends h asked states start old new SayFault stays = absurd stays.early

-- so does one without a script
pub script_early : {H : Type 0} (h : Ghosts H) (old : H) (fault : ScriptFault) → EndsEarly h old old (of_script fault)
script_early h old script.TooLong = refl
script_early h old script.SourceFault = refl
script_early h old script.OutOfMemory = refl

-- a fault is not the end of a run that did all
pub never_done : (fault : RunFault) → of_run fault ≡ Done → ⊥
never_done run.ShelfFault is = absurd cc
never_done run.OutOfMemory is = absurd cc
never_done run.DiskFault is = absurd cc
never_done run.SayFault is = absurd cc
