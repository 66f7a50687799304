-- What stands when a line, the lines of a run or a run has ended, by the answer.
use Rattle.std.specs.Prelude.{◌≡◌, ◌≢◌, ◌⊎◌, ◌<◌, ◌≤◌, ◌+◌, ℕ, List, [], ◌++◌, Result, Ok, Err, Some, take, slice_get}
use Rattle.host_model.specs.declared.host.Host.{Ghosts}
use Rattle.client_state.specs.declared.client_state.ClientState.{ClientState}
use Rattle.client_store.specs.OpenStore.{AllKept, AllKeptAmong, AllKeptEither}
use Rattle.session_run.specs.declared.faults.RunFault.{RunFault}
use Rattle.session_run.specs.declared.faults.RunFault.TheVariants as run
use Rattle.session_run.specs.declared.status.RunStatus.{RunStatus}
use Rattle.session_run.specs.declared.status.RunStatus.TheVariants.{Done, ScriptTooLong, SourceFault, ShelfFault, DiskFault, SayFault, OutOfMemory}
use Rattle.session_run.specs.Files.{NamesFile}
use Rattle.session_run.specs.Moments.{EndsEarly}
use Rattle.session_run.specs.Starts.{Start, line_count, state_at, last_state, answers, written_at}

-- a line that leads from s to t, with its answer. The disk fails only where the state changes, and the output only where the answer isn't empty
abbrev pub LineEnds : {H T : Type 0} → Ghosts H → ClientState → ClientState → List ℕ → List ℕ → H → Result T RunFault → Type 0
LineEnds h s t text said host (Ok done) = AllKept h host t × (h.said host ≡ said ++ text)
LineEnds h s t text said host (Err run.ShelfFault) = AllKept h host s × (h.said host ≡ said)
LineEnds h s t text said host (Err run.OutOfMemory) = AllKept h host s × (h.said host ≡ said)
LineEnds h s t text said host (Err run.DiskFault) = (s ≢ t) × AllKeptEither h host s t × (h.said host ≡ said)
LineEnds h s t text said host (Err run.SayFault) = (text ≢ []) × AllKept h host t × ((n : ℕ) × (h.said host ≡ said ++ take n text))

-- How many bytes are written where a line ends so, by the counts before it and once it is done: none of its own where no step is prepared or
-- no answer built, at most its own where the disk fails, and all of them where its answer isn't said
abbrev pub FaultCost : ℕ → ℕ → ℕ → RunFault → Type 0
FaultCost before after now run.ShelfFault = now ≡ before
FaultCost before after now run.OutOfMemory = now ≡ before
FaultCost before after now run.DiskFault = (before ≤ now) × (now ≤ after)
FaultCost before after now run.SayFault = now ≡ after

-- In what follows `asked` tells of some lines whether the shelf was asked for nothing but what they ask for.

-- all lines are done and answered, and exactly their bytes are written
pub record EndsWhole {H : Type 0} (h : Ghosts H) (asked : List (List ℕ) → Type 0) (start : Start) (host : H) : Type 0 where
  pub kept : AllKept h host (last_state start)
  pub text : h.said host ≡ start.said ++ answers start (line_count start)
  pub cost : h.written host ≡ written_at start (line_count start)
  pub asks : asked start.lines

-- the first k lines are done and answered, and the next one is not done. Exactly their bytes are written, and no file is asked for that they
-- and the next one don't ask for; so it is below
pub record EndsBefore {H : Type 0} (h : Ghosts H) (asked : List (List ℕ) → Type 0) (start : Start) (host : H) : Type 0 where
  pub k : ℕ
  pub within : k < line_count start
  pub kept : AllKept h host (state_at start k)
  pub text : h.said host ≡ start.said ++ answers start k
  pub cost : h.written host ≡ written_at start k
  pub asks : asked (take (k + 1) start.lines)

-- and the next one names a file
pub record EndsAtFile {H : Type 0} (h : Ghosts H) (asked : List (List ℕ) → Type 0) (start : Start) (host : H) : Type 0 where
  pub before : EndsBefore h asked start host
  pub line : List ℕ
  pub is_next : slice_get start.lines before.k ≡ Some line
  pub names : NamesFile line

-- the first k lines are done and answered. The next one changes the state. It is done or not, some of its bytes are written, and it is not
-- answered
pub record EndsWithin {H : Type 0} (h : Ghosts H) (asked : List (List ℕ) → Type 0) (start : Start) (host : H) : Type 0 where
  pub k : ℕ
  pub within : k < line_count start
  pub changes : state_at start k ≢ state_at start (k + 1)
  pub kept : AllKeptEither h host (state_at start k) (state_at start (k + 1))
  pub text : h.said host ≡ start.said ++ answers start k
  pub least : written_at start k ≤ h.written host
  pub most : h.written host ≤ written_at start (k + 1)
  pub asks : asked (take (k + 1) start.lines)

-- the first k lines are done and answered. The next one is done, exactly the bytes of all these are written, its answer isn't empty, and a
-- part of that is said
pub record EndsInAnswer {H : Type 0} (h : Ghosts H) (asked : List (List ℕ) → Type 0) (start : Start) (host : H) : Type 0 where
  pub k : ℕ
  pub within : k < line_count start
  pub kept : AllKept h host (state_at start (k + 1))
  pub part : List ℕ
  pub rest : List ℕ
  pub both : answers start k ++ part ++ rest ≡ answers start (k + 1)
  pub some : part ++ rest ≢ []
  pub text : h.said host ≡ start.said ++ answers start k ++ part
  pub cost : h.written host ≡ written_at start (k + 1)
  pub asks : asked (take (k + 1) start.lines)

-- lines
abbrev pub LinesEnd : {H T : Type 0} → Ghosts H → (List (List ℕ) → Type 0) → Start → H → Result T RunFault → Type 0
LinesEnd h asked start host (Ok done) = EndsWhole h asked start host
LinesEnd h asked start host (Err run.ShelfFault) = EndsAtFile h asked start host
LinesEnd h asked start host (Err run.OutOfMemory) = EndsBefore h asked start host
LinesEnd h asked start host (Err run.DiskFault) = EndsWithin h asked start host
LinesEnd h asked start host (Err run.SayFault) = EndsInAnswer h asked start host

-- no line is done: nothing is said, no more is written than the opening writes, and no file is asked for
pub record EndsUnbegun {H : Type 0} (h : Ghosts H) (asked : List (List ℕ) → Type 0) (start : Start) (host : H) : Type 0 where
  pub text : h.said host ≡ start.said
  pub most : h.written host ≤ start.written
  pub asks : asked []

-- so it is where the opening ended behind the syncs: each image is kept for the state of the start
pub record StaysAs {H : Type 0} (h : Ghosts H) (asked : List (List ℕ) → Type 0) (start : Start) (host : H) : Type 0 where
  pub kept : AllKept h host start.state
  pub unbegun : EndsUnbegun h asked start host

-- and where the run ended before both sides were synced: each is still kept for one of these states
pub record StaysAmong {H : Type 0} (h : Ghosts H) (asked : List (List ℕ) → Type 0) (states : List ClientState) (start : Start)
    (old host : H) (status : RunStatus) : Type 0 where
  pub early : EndsEarly h old host status
  pub kept : AllKeptAmong h host states
  pub unbegun : EndsUnbegun h asked start host

-- a run from a state, which was one of these
abbrev pub RunEnds : {H : Type 0} → Ghosts H → (List (List ℕ) → Type 0) → List ClientState → Start → H → H → RunStatus → Type 0
RunEnds h asked states start old host Done = EndsWhole h asked start host
RunEnds h asked states start old host ShelfFault = EndsAtFile h asked start host
RunEnds h asked states start old host SayFault = EndsInAnswer h asked start host
RunEnds h asked states start old host DiskFault =
    EndsWithin h asked start host ⊎ StaysAs h asked start host ⊎ StaysAmong h asked states start old host DiskFault
RunEnds h asked states start old host OutOfMemory =
    EndsBefore h asked start host ⊎ StaysAs h asked start host ⊎ StaysAmong h asked states start old host OutOfMemory
RunEnds h asked states start old host ScriptTooLong = StaysAmong h asked states start old host ScriptTooLong
RunEnds h asked states start old host SourceFault = StaysAmong h asked states start old host SourceFault
RunEnds h asked states start old host status = ⊥
