-- What might be met at the moments of a line and of a run: a left and a right image, and the text that was said.
use Rattle.std.specs.Prelude.{◌≡◌, ◌⊎◌, ◌<◌, ◌≤◌, ◌-◌, ℕ, List, ◌++◌, take}
use Rattle.host_model.specs.declared.host.Host.{Ghosts}
use Rattle.host_model.specs.Hosts.{MeetsAll}
use Rattle.client_state.specs.declared.client_state.ClientState.{ClientState}
use Rattle.pair_store.specs.Moments.{EndsUnsynced, IsReadOrRepaired}
use Rattle.pair_store.specs.Repair.{IsUnwritten, IsLeftByOpening}
use Rattle.client_store.specs.Moments.{WhileWritten, IsLeftAs, IsLeftAmong}
use Rattle.client_store.specs.OpenStore.{AllKept}
use Rattle.client_store.specs.Openings.{IsLeftOrMigrating}
use Rattle.client_store.specs.Store.{KeptFor}
use Rattle.session_run.specs.declared.status.RunStatus.{RunStatus}
use Rattle.session_run.specs.declared.status.RunStatus.TheVariants.{ScriptTooLong, SourceFault, DiskFault, OutOfMemory}
use Rattle.session_run.specs.Starts.{Start, line_count, state_at, answers}

-- during a line: the text of before with the old or the new state, or the new state with a prefix of the answer behind that text
abbrev pub DuringLine : List ℕ → ClientState → ClientState → List ℕ → List ℕ → List ℕ → List ℕ → Type 0
DuringLine said s t text l r u = WhileWritten said s t l r u ⊎ (KeptFor l r t × ((n : ℕ) × (u ≡ said ++ take n text)))

abbrev pub IsPrefixOf : List ℕ → List ℕ → Type 0
IsPrefixOf u v = (rest : List ℕ) × (u ++ rest ≡ v)

-- the images are kept for the state after the first k lines. What was said is a prefix of the answers to these lines, and has the answers to
-- all of them but the last
pub record AfterPrefix (start : Start) (l r u : List ℕ) : Type 0 where
  pub new : List ℕ
  pub text : u ≡ start.said ++ new
  pub k : ℕ
  pub within : k ≤ line_count start
  pub kept : KeptFor l r (state_at start k)
  pub printed : IsPrefixOf new (answers start k)
  pub answered : 0 < k → IsPrefixOf (answers start (k - 1)) new

-- ---- a run

-- the run ended before both sides were synced: it did nothing to the host, or the disk has failed by then
abbrev pub EndsEarly : {H : Type 0} → Ghosts H → H → H → RunStatus → Type 0
EndsEarly h old new ScriptTooLong = new ≡ old
EndsEarly h old new SourceFault = new ≡ old
EndsEarly h old new OutOfMemory = new ≡ old
EndsEarly h old new DiskFault = EndsUnsynced h old new
EndsEarly h old new status = ⊥

-- what the opening makes of the bytes that reads gave. Until the earlier of two open sides is closed each image is what reads gave, but for
-- that side's first byte. Then it is what a migration makes of that, where the rows are an old form
pub record RepairsAndMigrates {H : Type 0} (h : Ghosts H) (old synced opened : H) : Type 0 where
  pub repaired : H
  pub repair : MeetsAll h synced repaired (IsReadOrRepaired h old)
  pub left : IsLeftByOpening h old repaired
  pub migration : MeetsAll h repaired opened (IsLeftOrMigrating h old repaired)

-- or the disk has failed in the first of the two
abbrev pub OpensBytes : {H : Type 0} → Ghosts H → H → H → H → RunStatus → Type 0
OpensBytes h old synced opened status =
    ((status ≡ DiskFault) × MeetsAll h synced opened (IsReadOrRepaired h old)) ⊎ RepairsAndMigrates h old synced opened

-- the three phases of a run, with a host behind each of the first two
pub record InThreePhases {H : Type 0} (h : Ghosts H) (states : List ClientState) (start : Start) (old new : H)
    (status : RunStatus) : Type 0 where
  -- until both sides are synced each image is kept for one of these states, nothing is said, and nothing is written
  pub synced : H
  pub first : MeetsAll h old synced (IsLeftAmong start.said states)
  pub unwritten : IsUnwritten h old synced
  -- from then on each is kept for the state of the start, and until the store is open nothing is said
  pub opened : H
  pub second : MeetsAll h synced opened (IsLeftAs start.said start.state)
  pub bytes : OpensBytes h old synced opened status
  pub kept : AllKept h opened start.state
  -- then the lines are done
  pub third : MeetsAll h opened new (AfterPrefix start)

-- all three, the last ones of which may be cut short; or the first one alone, where the run ended in it
abbrev pub InPhases : {H : Type 0} → Ghosts H → List ClientState → Start → H → H → RunStatus → Type 0
InPhases h states start old new status =
    (EndsEarly h old new status × MeetsAll h old new (IsLeftAmong start.said states)) ⊎ InThreePhases h states start old new status
