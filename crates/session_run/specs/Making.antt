-- What is promised of the making of a store.
use Rattle.std.specs.Prelude.{◌≡◌, ◌⊎◌, ◌≤◌, ◌+◌, ℕ, List, [], ◌∷◌, ◌++◌, take, drop, codes}
use Rattle.host_model.specs.declared.side.Side.{Side}
use Rattle.host_model.specs.declared.side.Side.TheVariants.{Left, Right}
use Rattle.host_model.specs.declared.host.Host.{Ghosts}
use Rattle.host_model.specs.Hosts.{MeetsAll}
use Rattle.host_model.specs.Sides.{on}
use Rattle.pair_store.specs.Moments.{EndsUnsynced, OpensInTwoPhases}
use Rattle.gate_journal.specs.Records.{made_on}
use Rattle.row_store.specs.Rows.{HasRows, HasPlace}
use Rattle.client_state.specs.declared.client_state.ClientState.{ClientState}
use Rattle.client_store.specs.Makings.{MakesInPhases}
use Rattle.client_store.specs.NewStates.{fresh}
use Rattle.client_state.specs.Encoding.{rows_of, encoding}
use Rattle.client_store.specs.Moments.{IsLeftAmong}
use Rattle.client_store.specs.OpenStore.{AllKept, AllKeptAmong}
use Rattle.client_store.specs.Places.{making_bytes, place_made}
use Rattle.client_store.specs.Store.{KeptFor, IsAbsent}
use Rattle.client_words.specs.Answers.{hyphenated}
use Rattle.session_run.specs.declared.status.RunStatus.{RunStatus}
use Rattle.session_run.specs.declared.status.RunStatus.TheVariants.{Done, AlreadyStore, BadStore, DiskFault, SayFault, OutOfMemory}
use Rattle.session_run.specs.Writes.{IsBelowMark, WritesNoMore}

-- what is said of a new store
unfoldable pub ready : List ℕ → List ℕ
ready id = codes "ready " ++ hyphenated id ++ 10 ∷ []

-- nothing is said, or a prefix of the answer is and the images are kept for the state
abbrev pub DuringMaking : List ℕ → ClientState → List ℕ → List ℕ → List ℕ → List ℕ → Type 0
DuringMaking said s text l r u = (u ≡ said) ⊎ (KeptFor l r s × ((n : ℕ) × (u ≡ said ++ take n text)))

-- the store is made, and a part of the answer to that is said
pub record EndsInReady {H : Type 0} (h : Ghosts H) (s : ClientState) (text said : List ℕ) (host : H) : Type 0 where
  pub kept : AllKept h host s
  pub n : ℕ
  pub said_part : h.said host ≡ said ++ take n text

-- by the status. A store that is not made is not said to be ready
abbrev pub MakingEnds : {H : Type 0} → Ghosts H → ClientState → List ℕ → List ℕ → H → RunStatus → Type 0
MakingEnds h s text said host Done = AllKept h host s × (h.said host ≡ said ++ text)
MakingEnds h s text said host SayFault = EndsInReady h s text said host
MakingEnds h s text said host AlreadyStore = h.said host ≡ said
MakingEnds h s text said host BadStore = h.said host ≡ said
MakingEnds h s text said host DiskFault = h.said host ≡ said
MakingEnds h s text said host OutOfMemory = h.said host ≡ said
MakingEnds h s text said host status = ⊥

-- the store was made: that is said, or the output has failed
abbrev pub MakesStore : RunStatus → Type 0
MakesStore Done = Unit {0}
MakesStore SayFault = Unit {0}
MakesStore status = ⊥

-- the store that was made. Its journal stands on the left side, and the right side is closed; else both sides are as they were
pub record IsNewStore {H : Type 0} (h : Ghosts H) (id : List ℕ) (now : ℕ) (old new : H) : Type 0 where
  -- its rows are encoded, and in no older form, and the next record begins behind them
  pub encoded : HasRows (h.reads new Left) (h.reads new Right) (rows_of (fresh id now))
  pub placed : HasPlace (h.reads new Left) (h.reads new Right) (place_made (fresh id now))
  pub journal : h.reads new Left ≡ made_on 0 (encoding (fresh id now)) (h.reads old Left)
  pub closed : h.reads new Right ≡ 0 ∷ drop 1 (h.reads old Right)
  -- it takes exactly its bytes
  pub cost : h.written new ≡ h.written old + making_bytes (fresh id now)

-- The phases of a making, until its answer is said: those of one that found no store; or an opening and no more, as far as the disk lets
-- it; or nothing at all, where memory is wanting before
abbrev pub MakesOn : {H : Type 0} → Ghosts H → ClientState → H → H → RunStatus → Type 0
MakesOn h s old made status =
    MakesInPhases h s old made
    ⊎ (OpensInTwoPhases h old made ⊎ (((status ≡ DiskFault) × EndsUnsynced h old made) ⊎ ((status ≡ OutOfMemory) × (made ≡ old))))

-- what reads give
abbrev pub IsAsRead : {H : Type 0} → Ghosts H → H → List ℕ → List ℕ → List ℕ → Type 0
IsAsRead h host l r u = (side : Side) → on side l r ≡ h.reads host side

-- a making, and then its answer, while each image is what reads give
pub record MakesAndSays {H : Type 0} (h : Ghosts H) (s : ClientState) (old new : H) (status : RunStatus) : Type 0 where
  pub made : H
  pub making : MakesOn h s old made status
  pub says : (new ≡ made) ⊎ MeetsAll h made new (IsAsRead h made)

-- the making of a store with this id at this moment
pub record Made {H : Type 0} (h : Ghosts H) (id : List ℕ) (now : ℕ) (old new : H) (status : RunStatus) : Type 0 where
  -- at each moment at which a byte of the answer is said, the images are kept for the state of the new store
  pub moments : MeetsAll h old new (DuringMaking (h.said old) (fresh id now) (ready id))
  -- what each image is at each moment, phase by phase
  pub phases : MakesAndSays h (fresh id now) old new status
  -- what stands when it has ended
  pub ends : MakingEnds h (fresh id now) (ready id) (h.said old) new status
  -- where each image is kept for one of some states, each image at each moment is, and nothing is said
  pub left : (states : List ClientState) → AllKeptAmong h old states → MeetsAll h old new (IsLeftAmong (h.said old) states)
  -- where memory is wanting, nothing is said, and no byte is written but that of an opening
  pub memory : status ≡ OutOfMemory → WritesNoMore h old new
  -- to the byte, what stands where the store was made
  pub store : MakesStore status → IsNewStore h id now old new
  -- no end takes more bytes than the store does
  pub most : IsAbsent (h.reads old Left) (h.reads old Right) → h.written new ≤ h.written old + making_bytes (fresh id now)
  -- no byte at or past byte 33,554,432 of a side is written
  pub below : MeetsAll h old new (IsBelowMark h old)
