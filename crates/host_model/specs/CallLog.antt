-- The calls that changed something in a host in memory, and what they leave.
use Rattle.std.specs.Prelude.{◌≡◌, ◌⊎◌, ℕ, zero, suc, ◌+◌, List, [], ◌∷◌, ◌++◌, length, replicate}
use Rattle.host_model.specs.declared.side.Side.{Side}
use Rattle.host_model.specs.declared.side.Side.TheVariants.{Left, Right}
use Rattle.host_model.specs.Images.{overwritten, Torn, IsAfter}
use Rattle.host_model.specs.Moments.{IsNow, IsSaying}

-- a call that answered Ok and changed something
pub data PastCall : Type 0 where
  Wrote : (side : Side) → (at : ℕ) → (bytes : List ℕ) → PastCall
  Synced : (side : Side) → PastCall
  Said : (bytes : List ℕ) → PastCall

-- what both sides held at first, the calls since then in order, and for how many bytes there is room
pub record CallLog : Type 0 where
  pub left : List ℕ
  pub right : List ℕ
  pub past : List PastCall
  pub room : ℕ

-- a side: what was synced last, each range that was written since (offset and length, the newest first), what reads give
pub record SideState : Type 0 where
  pub synced : List ℕ
  pub pending : List (ℕ × ℕ)
  pub read : List ℕ

-- both sides and the text said
pub record HostState : Type 0 where
  pub left : SideState
  pub right : SideState
  pub text : List ℕ

abbrev pub side_of : HostState → Side → SideState
side_of host Left = host.left
side_of host Right = host.right

abbrev pub all_synced : List ℕ → SideState
all_synced bytes = record { synced = bytes; pending = []; read = bytes }

abbrev pub wrote : SideState → ℕ → List ℕ → SideState
wrote state at bytes = record { synced = state.synced; pending = (at, length bytes) ∷ state.pending; read = overwritten state.read at bytes }

abbrev pub after : HostState → PastCall → HostState
after host (Wrote Left at bytes) = record { left = wrote host.left at bytes; right = host.right; text = host.text }
after host (Wrote Right at bytes) = record { left = host.left; right = wrote host.right at bytes; text = host.text }
after host (Synced Left) = record { left = all_synced host.left.read; right = host.right; text = host.text }
after host (Synced Right) = record { left = host.left; right = all_synced host.right.read; text = host.text }
after host (Said bytes) = record { left = host.left; right = host.right; text = host.text ++ bytes }

abbrev pub state_after : HostState → List PastCall → HostState
state_after host [] = host
state_after host (call ∷ past) = state_after (after host call) past

abbrev pub start : CallLog → HostState
start log = record { left = all_synced log.left; right = all_synced log.right; text = [] }

abbrev pub state_of : CallLog → HostState
state_of log = state_after (start log) log.past

-- the synced bytes after some of each pending write
abbrev pub IsImage : List ℕ → List (ℕ × ℕ) → List ℕ → Type 0
IsImage synced [] c = c ≡ synced
IsImage synced (range ∷ pending) c = IsAfter (Torn range.0 range.1) (IsImage synced pending) c

abbrev pub images_of : HostState → Side → List ℕ → Type 0
images_of host side c = IsImage (side_of host side).synced (side_of host side).pending c

-- the bytes with 255 in each place of these ranges
abbrev pub marked : List ℕ → List (ℕ × ℕ) → List ℕ
marked bytes [] = bytes
marked bytes (range ∷ ranges) = overwritten (marked bytes ranges) range.0 (replicate range.1 255)

-- what might be while a call is at work
abbrev pub IsDuring : HostState → PastCall → List ℕ → List ℕ → List ℕ → Type 0
IsDuring host (Wrote side at bytes) l r u = IsNow (images_of host) host.text l r u
IsDuring host (Synced side) l r u = IsNow (images_of host) host.text l r u
IsDuring host (Said bytes) l r u = IsSaying (images_of host) host.text bytes l r u

-- what might have been since moment t: moment t is after t calls
abbrev pub MightSince : HostState → List PastCall → ℕ → List ℕ → List ℕ → List ℕ → Type 0
MightSince host [] t l r u = IsNow (images_of host) host.text l r u
MightSince host (call ∷ past) zero l r u = IsDuring host call l r u ⊎ MightSince (after host call) past zero l r u
MightSince host (call ∷ past) (suc t) l r u = MightSince (after host call) past t l r u

-- the bytes that were written
abbrev pub bytes_written : List PastCall → ℕ
bytes_written [] = 0
bytes_written (Wrote side at bytes ∷ past) = length bytes + bytes_written past
bytes_written (Synced side ∷ past) = bytes_written past
bytes_written (Said bytes ∷ past) = bytes_written past

-- the bytes that were written or said
abbrev pub bytes_logged : List PastCall → ℕ
bytes_logged [] = 0
bytes_logged (Wrote side at bytes ∷ past) = length bytes + bytes_logged past
bytes_logged (Synced side ∷ past) = bytes_logged past
bytes_logged (Said bytes ∷ past) = length bytes + bytes_logged past
