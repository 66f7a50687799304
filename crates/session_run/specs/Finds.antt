-- What the pair of sides was, as the status of a call tells it, and which status each such pair has.
use Rattle.std.specs.Prelude.{◌≡◌, ◌⊎◌, ℕ, List}
use Rattle.host_model.specs.declared.side.Side.TheVariants.{Left, Right}
use Rattle.host_model.specs.declared.host.Host.{Ghosts}
use Rattle.pair_store.specs.Repair.{IsUnwritten, IsLeftByOpening}
use Rattle.client_state.specs.declared.client_state.ClientState.{ClientState}
use Rattle.client_store.specs.Store.{StandsFor, IsStore, IsAbsent, IsBad}
use Rattle.session_run.specs.declared.status.RunStatus.{RunStatus}
use Rattle.session_run.specs.declared.status.RunStatus.TheVariants.{Done, Usage, ScriptTooLong, NoStore, AlreadyStore, BadStore}
use Rattle.session_run.specs.declared.status.RunStatus.TheVariants.{SourceFault, ShelfFault, DiskFault, SayFault, OutOfMemory}
use Rattle.session_run.specs.Writes.{WritesNoMore}

-- the call may have ended before the pair was judged
abbrev pub EndedBefore : RunStatus → Type 0
EndedBefore status = (status ≡ ScriptTooLong) ⊎ (status ≡ SourceFault) ⊎ (status ≡ DiskFault) ⊎ (status ≡ OutOfMemory)

-- what a run found
abbrev pub RunFinds : List ℕ → List ℕ → RunStatus → Type 0
RunFinds l r Done = IsStore l r
RunFinds l r SayFault = IsStore l r
RunFinds l r ShelfFault = IsStore l r
RunFinds l r NoStore = IsAbsent l r
RunFinds l r BadStore = IsBad l r
RunFinds l r Usage = ⊥
RunFinds l r AlreadyStore = ⊥
RunFinds l r status = Unit {0}

-- what the making of a store found, and so a drill
abbrev pub MakingFinds : List ℕ → List ℕ → RunStatus → Type 0
MakingFinds l r Done = IsAbsent l r
MakingFinds l r SayFault = IsAbsent l r
MakingFinds l r AlreadyStore = IsStore l r
MakingFinds l r BadStore = IsBad l r
MakingFinds l r DiskFault = Unit {0}
MakingFinds l r OutOfMemory = Unit {0}
MakingFinds l r status = ⊥

-- a run answers NoStore and BadStore wherever the pair is such, unless it ended before
pub record RunJudges (l r : List ℕ) (status : RunStatus) : Type 0 where
  pub no_store : IsAbsent l r → (status ≡ NoStore) ⊎ EndedBefore status
  pub bad_store : IsBad l r → (status ≡ BadStore) ⊎ EndedBefore status

-- the making of a store answers AlreadyStore and BadStore wherever the pair is such, unless it ended before
pub record MakingJudges (l r : List ℕ) (status : RunStatus) : Type 0 where
  pub already_store : IsStore l r → (status ≡ AlreadyStore) ⊎ EndedBefore status
  pub bad_store : IsBad l r → (status ≡ BadStore) ⊎ EndedBefore status

-- what a run leaves that opened no store: where there is none, nothing was written, and each image is what reads give. A damaged one is as
-- reads gave it, but for the byte that an opening writes
abbrev pub RunLeaves : {H : Type 0} → Ghosts H → H → H → RunStatus → Type 0
RunLeaves h old new NoStore = IsUnwritten h old new
RunLeaves h old new BadStore = IsLeftByOpening h old new
RunLeaves h old new status = Unit {0}

-- what the making of a store leaves, and so a drill, where there is one or a damaged one
abbrev pub MakingLeaves : {H : Type 0} → Ghosts H → H → H → RunStatus → Type 0
MakingLeaves h old new AlreadyStore = IsLeftByOpening h old new
MakingLeaves h old new BadStore = IsLeftByOpening h old new
MakingLeaves h old new status = Unit {0}

-- what a run found in what reads gave. It says something, or writes more than the byte of an opening, only where that stands for a state
pub record RunFound {H : Type 0} (h : Ghosts H) (old new : H) (status : RunStatus) : Type 0 where
  pub finds : RunFinds (h.reads old Left) (h.reads old Right) status
  pub judges : RunJudges (h.reads old Left) (h.reads old Right) status
  pub leaves : RunLeaves h old new status
  pub quiet : ((s : ClientState) → StandsFor (h.reads old Left) (h.reads old Right) s → ⊥) → WritesNoMore h old new

-- what the making of a store found, and so a drill. It says something, or writes more than the byte of an opening, only where neither side was open
pub record MakingFound {H : Type 0} (h : Ghosts H) (old new : H) (status : RunStatus) : Type 0 where
  pub finds : MakingFinds (h.reads old Left) (h.reads old Right) status
  pub judges : MakingJudges (h.reads old Left) (h.reads old Right) status
  pub leaves : MakingLeaves h old new status
  pub quiet : (IsAbsent (h.reads old Left) (h.reads old Right) → ⊥) → WritesNoMore h old new
