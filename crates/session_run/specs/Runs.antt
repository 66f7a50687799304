-- What is promised of a run.
use Rattle.std.specs.Prelude.{◌≡◌, ◌⊎◌, ◌++◌, ℕ, List, Some, IsTrue, slice_get, Result, OnOk}
use Rattle.host_model.specs.declared.side.Side.TheVariants.{Left, Right}
use Rattle.host_model.specs.declared.host.Host.{Ghosts}
use Rattle.host_model.specs.Hosts.{MeetsAll}
use Rattle.client_state.specs.declared.client_state.ClientState.{ClientState}
use Rattle.client_state.specs.Forms.{needs_migration}
use Rattle.client_store.specs.Migrations.{OpensWith}
use Rattle.client_store.specs.OpenStore.{AllKept, AllKeptAmong, AllStand}
use Rattle.client_store.specs.Store.{StandsFor, KeptFor}
use Rattle.session_run.specs.declared.faults.RunFault.{RunFault}
use Rattle.session_run.specs.declared.status.RunStatus.{RunStatus}
use Rattle.session_run.specs.declared.status.RunStatus.TheVariants.{Done}
use Rattle.session_run.specs.Chains.{IsLinked}
use Rattle.session_run.specs.Ends.{LinesEnd, RunEnds}
use Rattle.session_run.specs.Moments.{AfterPrefix, InPhases}
use Rattle.session_run.specs.Starts.{Start, line_count, last_state, answers, written_at, Changes}
use Rattle.session_run.specs.Steps.{answer, run_at}
use Rattle.session_run.specs.Values.{value_line, IsServedValue}

-- each value that a line is answered is the one that the manifest serves which was set last, with the types of the feature's variables
abbrev pub ServesValues : Start → Type 0
ServesValues start =
    (k : ℕ) (line text : List ℕ) → slice_get start.lines k ≡ Some line
    → answer start.at (run_at start.at start.state start.lines k) line ≡ value_line text
    → IsServedValue start.at start.state start.lines k line text

-- a pair stands for a state by the old form of its rows
abbrev pub HasOldForm : List ℕ → List ℕ → ClientState → Type 0
HasOldForm l r s = (found : StandsFor l r s) × IsTrue (needs_migration found.stored)

-- what reads give is kept for s
abbrev pub ReadsKept : {H : Type 0} → Ghosts H → H → ClientState → Type 0
ReadsKept h host s = KeptFor (h.reads host Left) (h.reads host Right) s

-- or stands for it
abbrev pub ReadsStand : {H : Type 0} → Ghosts H → H → ClientState → Type 0
ReadsStand h host s = StandsFor (h.reads host Left) (h.reads host Right) s

-- all lines are done, from a pair that stood for a state
pub record StandsAfter {H : Type 0} (h : Ghosts H) (start : Start) (old new : H) : Type 0 where
  -- what reads give, like each image, stands for the state after all lines
  pub reads : ReadsStand h new (last_state start)
  pub images : AllStand h new (last_state start)
  -- all answers were said, and exactly the bytes of the lines written
  pub text : h.said new ≡ start.said ++ answers start (line_count start)
  pub cost : h.written new ≡ written_at start (line_count start)
  -- where the pair was kept that reads gave, or a record was written, since its rows were in the old form or a line changed the state,
  -- each image is kept for the last
  pub kept : ReadsKept h old start.state ⊎ HasOldForm (h.reads old Left) (h.reads old Right) start.state ⊎ Changes start
      → ReadsKept h new (last_state start) × AllKept h new (last_state start)

-- lines that were done over an open store, which had a byte at the gate behind its records where `gated` holds. Of some lines `asked`
-- tells whether the shelf was asked for nothing but what they ask for
pub record LinesRan {H T : Type 0} (h : Ghosts H) (asked : List (List ℕ) → Type 0) (gated : Type 0) (start : Start) (old new : H)
    (result : Result T RunFault) : Type 0 where
  pub moments : gated → MeetsAll h old new (AfterPrefix start)
  pub ends : gated → LinesEnd h asked start new result
  pub images : OnOk result (AllStand h new (last_state start))
  pub text : OnOk result (h.said new ≡ start.said ++ answers start (line_count start))
  pub cost : OnOk result (h.written new ≡ written_at start (line_count start))
  pub kept : OnOk result (gated ⊎ Changes start → AllKept h new (last_state start))

-- A run. Where the store's state is s, and its opening leaves the next record at a place and writes so many bytes, the lines begin with
-- `from s place bytes`. What may be met at a moment depends on neither number, and there both are 0. Of some lines `asked` tells whether
-- the shelf was asked for nothing but what they ask for.
pub record Ran {H : Type 0} (h : Ghosts H) (asked : List (List ℕ) → Type 0) (from : ClientState → ℕ → ℕ → Start) (old new : H)
    (status : RunStatus) : Type 0 where
  -- whenever a crash comes, inside a call too, the two images are kept for the state after the first k lines, each whose answer was said
  -- among them, and what was said is a prefix of the answers to them
  pub crash : (s : ClientState) → AllKept h old s → MeetsAll h old new (AfterPrefix (from s 0 0))
  -- after a run that the disk has ended, whose images are each kept for one of some states: that holds until both sides are synced, and
  -- nothing is said. From then on the state is the one for which reads are kept, also where the disk fails in the opening
  pub phases : (states : List ClientState) (s : ClientState) → AllKeptAmong h old states → ReadsKept h old s
      → InPhases h states (from s 0 0) old new status
  -- what stands when it has ended, how many bytes were written, and which files were asked for, status by status
  pub ends : (states : List ClientState) (s : ClientState) → AllKeptAmong h old states → ReadsKept h old s
      → (place bytes : ℕ) × OpensWith (h.reads old Left) (h.reads old Right) s place bytes × RunEnds h asked states (from s place bytes) old new status
  -- a chain's link: whenever a crash comes, and when it has ended, each pair of images is one that the run leads to from a pair of its start
  pub links : (states : List ClientState) (s : ClientState) → AllKeptAmong h old states → ReadsKept h old s
      → MeetsAll h old new (IsLinked h old (from s 0 0))
  -- without a crash: where it answers Done, all lines were done and answered from what reads gave
  pub done : status ≡ Done → (s : ClientState) → ReadsStand h old s
      → (place bytes : ℕ) × OpensWith (h.reads old Left) (h.reads old Right) s place bytes × StandsAfter h (from s place bytes) old new
  -- each value that is said, at whatever moment, has its types
  pub values : (s : ClientState) → ReadsStand h old s → ServesValues (from s 0 0)
