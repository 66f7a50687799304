-- What is promised of a drill.
use Rattle.std.specs.Prelude.{◌≡◌, ◌⊎◌, ℕ, List, ◌++◌, take}
use Rattle.host_model.specs.declared.host.Host.{Ghosts}
use Rattle.host_model.specs.Hosts.{MeetsAll}
use Rattle.client_state.specs.declared.client_state.ClientState.{ClientState}
use Rattle.client_store.specs.Moments.{IsLeftAmong}
use Rattle.client_store.specs.OpenStore.{AllKept, AllKeptAmong}
use Rattle.client_store.specs.Places.{place_made}
use Rattle.session_run.specs.declared.status.RunStatus.{RunStatus}
use Rattle.session_run.specs.declared.status.RunStatus.TheVariants.{Done, DiskFault, SayFault, OutOfMemory}
use Rattle.session_run.specs.Drills.{drill_bytes, drill_fresh, drill_ready, drill_start, drill_summary, DuringDrill}
use Rattle.session_run.specs.Ends.{EndsWhole, EndsBefore, EndsWithin, EndsInAnswer, StaysAs}
use Rattle.session_run.specs.Making.{Made}
use Rattle.session_run.specs.Runs.{ServesValues}
use Rattle.session_run.specs.Starts.{Start, line_count, last_state, answers, written_at}
use Rattle.session_run.specs.Writes.{IsBelowMark}

-- all lines are done and answered, and the summary is said
pub record EndsSummed {H : Type 0} (h : Ghosts H) (start : Start) (summary : List ℕ) (host : H) : Type 0 where
  pub kept : AllKept h host (last_state start)
  pub text : h.said host ≡ start.said ++ answers start (line_count start) ++ summary
  pub cost : h.written host ≡ written_at start (line_count start)

-- all lines are done and answered, and a part of the summary is said
pub record EndsInSummary {H : Type 0} (h : Ghosts H) (start : Start) (summary : List ℕ) (host : H) : Type 0 where
  pub kept : AllKept h host (last_state start)
  pub n : ℕ
  pub text : h.said host ≡ start.said ++ answers start (line_count start) ++ take n summary
  pub cost : h.written host ≡ written_at start (line_count start)

-- what was said when the saying of a summary has ended
abbrev pub SummaryEnds : List ℕ → List ℕ → List ℕ → RunStatus → Type 0
SummaryEnds said summary u Done = u ≡ said ++ summary
SummaryEnds said summary u SayFault = (n : ℕ) × (u ≡ said ++ take n summary)
SummaryEnds said summary u OutOfMemory = u ≡ said
SummaryEnds said summary u status = ⊥

-- a drill has files of its own, and of these it may ask for any
abbrev pub AsksForAny : List (List ℕ) → Type 0
AsksForAny lines = Unit {0}

-- what follows `ready`: the lines from the new store's state, and the summary
abbrev pub ScriptEnds : {H : Type 0} → Ghosts H → Start → List ℕ → H → RunStatus → Type 0
ScriptEnds h start summary host Done = EndsSummed h start summary host
ScriptEnds h start summary host OutOfMemory = EndsBefore h AsksForAny start host ⊎ StaysAs h AsksForAny start host ⊎ EndsWhole h AsksForAny start host
ScriptEnds h start summary host DiskFault = EndsWithin h AsksForAny start host ⊎ StaysAs h AsksForAny start host
ScriptEnds h start summary host SayFault = EndsInAnswer h AsksForAny start host ⊎ EndsInSummary h start summary host
ScriptEnds h start summary host status = ⊥

-- what its lines begin with where its store was made: the opening writes nothing there
abbrev pub made_start : {H : Type 0} → Ghosts H → ℕ → ℕ → ℕ → H → Start
made_start h start count now made = drill_start start count now (place_made (drill_fresh now)) (h.said made) (h.written made)

-- and what follows the `ready` of a drill: the store was made on the host `made`, which its lines open
pub record ReadyEnds {H : Type 0} (h : Ghosts H) (start count now : ℕ) (old new : H) (status : RunStatus) : Type 0 where
  pub made : H
  pub making : Made h drill_bytes now old made Done
  pub ends : ScriptEnds h (made_start h start count now made) (drill_summary start count now) new status

-- a whole drill: its store was not made, or not said to be ready, and this is as in the making of a store that is not done. Or what follows
-- `ready` has ended
abbrev pub DrillEnds : {H : Type 0} → Ghosts H → ℕ → ℕ → ℕ → H → H → RunStatus → Type 0
DrillEnds h start count now old new status =
    ((¬ (status ≡ Done)) × Made h drill_bytes now old new status) ⊎ ReadyEnds h start count now old new status

-- a drill, which makes its store, does the lines of its script over its files, and then says the summary of the last state
pub record Drilled {H : Type 0} (h : Ghosts H) (start count now : ℕ) (old new : H) (status : RunStatus) : Type 0 where
  -- at each moment: as in the making of its store until `ready` is said, then as in a run of its lines, and then in the summary
  pub moments : MeetsAll h old new (DuringDrill start count now (h.said old))
  -- what stands when it has ended, and how many bytes were written
  pub ends : DrillEnds h start count now old new status
  -- where each image is kept for one of some states, each image at each moment is, and nothing is said
  pub left : (states : List ClientState) → AllKeptAmong h old states → MeetsAll h old new (IsLeftAmong (h.said old) states)
  -- each value that is said, at whatever moment, has its types
  pub values : ServesValues (drill_start start count now 0 (h.said old ++ drill_ready) 0)
  -- no byte at or past byte 33,554,432 of a side is written
  pub below : MeetsAll h old new (IsBelowMark h old)
