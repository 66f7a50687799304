-- The buffers of a side of a host in memory.
use Rattle.std.specs.Prelude.{◌≤◌, ℕ, List, length, replicate, vec_capacity}
use Rattle.host_model.specs.declared.side_buffers.SideBuffers.TheInside.{Inside}
use Rattle.host_model.specs.Images.{overwritten}

-- what the side held at first, what was synced last, what reads give, the same with 255 for what was written since, and
-- how many bytes the side may have
pub record SideBytes : Type 0 where
  pub first : List ℕ
  pub synced : List ℕ
  pub read : List ℕ
  pub torn : List ℕ
  pub room : ℕ

-- a side of these bytes, all of them synced
abbrev pub new_side : List ℕ → ℕ → SideBytes
new_side bytes room = record { first = bytes; synced = bytes; read = bytes; torn = bytes; room = room }

-- after a write, and after a sync
abbrev pub with_write : SideBytes → ℕ → List ℕ → SideBytes
with_write b at bytes = record { first = b.first; synced = b.synced; read = overwritten b.read at bytes; torn = overwritten b.torn at (replicate (length bytes) 255); room = b.room }

abbrev pub with_sync : SideBytes → SideBytes
with_sync b = record { first = b.first; synced = b.read; read = b.read; torn = b.read; room = b.room }

abbrev pub as_bytes : Inside → SideBytes
as_bytes t = record { first = t.first.items; synced = t.synced.items; read = t.read.items; torn = t.torn.items; room = t.room }

-- that room is reserved
pub record IsReserved (t : Inside) : Type 0 where
  pub within : length t.read.items ≤ t.room
  pub synced_room : t.room ≤ vec_capacity t.synced
  pub read_room : t.room ≤ vec_capacity t.read
  pub torn_room : t.room ≤ vec_capacity t.torn
