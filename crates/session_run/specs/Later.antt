-- What is kept when a line or a run has ended, whatever the source and the shelf tell.
use Rattle.std.specs.Prelude.{◌≡◌, ℕ, List, Result}
use Rattle.host_model.specs.declared.host.Host.{Ghosts}
use Rattle.client_state.specs.declared.client_state.ClientState.{ClientState}
use Rattle.client_core.specs.declared.client.Client.{Client}
use Rattle.client_store.specs.OpenStore.{AllKept, AllKeptAmong}
use Rattle.session_run.specs.declared.faults.RunFault.{RunFault}
use Rattle.session_run.specs.declared.status.RunStatus.{RunStatus}
use Rattle.session_run.specs.declared.status.RunStatus.TheVariants.{DiskFault}
use Rattle.session_run.specs.Lines.{LineRan}

-- a line on this client that leads to some state, with some answer
abbrev pub RanSomehow : {H T : Type 0} → Ghosts H → Client → H → H → Result T RunFault → Type 0
RanSomehow h client old new result = (t : ClientState) × ((text : List ℕ) × LineRan h client t text old new result)

-- each image is kept for one of some states, and for one alone where the disk has not failed
pub record KeepsSome {H : Type 0} (h : Ghosts H) (failed : Type 0) (host : H) : Type 0 where
  pub some : (later : List ClientState) × AllKeptAmong h host later
  pub one : ¬ failed → (s : ClientState) × AllKept h host s

-- the next run may begin: when one has ended, each pair of images is kept for one of some states where it was so before, and for one alone
-- where it was for one alone and the disk has not ended the run
pub record MayGoOn {H : Type 0} (h : Ghosts H) (old new : H) (status : RunStatus) : Type 0 where
  pub next : (states : List ClientState) → AllKeptAmong h old states → (later : List ClientState) × AllKeptAmong h new later
  pub next_one : (s : ClientState) → AllKept h old s → ¬ (status ≡ DiskFault) → (t : ClientState) × AllKept h new t
